use Rattle.std.proofs.Common.{ap, ℕ}
use Rattle.ls_formats.specs.declared.part.FilePart.TheVariants.{Weaver}
use Rattle.ls_formats.specs.Files.{format_of}
use Rattle.ls_formats.specs.Contents.{IsSlot, slot_bytes}
use Rattle.ls_formats.proofs.ContentLemmas.{spelled_fault, spelled_value, slot_of, slot_format, slot_long}
use Rattle.ls_formats.proofs.slot.SlotFile.parse.Goals as goal

pub slot_of-requires : goal.slot_of-requires
slot_of-requires c = slot_long c.args.bytes.now c.in-None.ensures.first

pub returns-in-Some-clause-exact : goal.returns-in-Some-clause-exact
returns-in-Some-clause-exact c = spelled_fault (format_of Weaver) IsSlot slot_bytes slot_of slot_format c.args.bytes.now c.in-Some.at c.in-Some.ensures.first

pub returns-in-None-clause-exact : goal.returns-in-None-clause-exact
returns-in-None-clause-exact c =
    spelled_value (format_of Weaver) IsSlot slot_bytes slot_of slot_format c.args.bytes.now c.in-None.ensures.first
    (record { slot = c.slot_of.result }) (ap (λ (n : ℕ). record { slot = n }) c.slot_of.ensures.same)
