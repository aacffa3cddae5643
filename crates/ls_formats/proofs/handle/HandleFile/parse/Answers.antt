use Rattle.std.proofs.Common.{ap}
use Rattle.ls_formats.specs.declared.part.FilePart.TheVariants.{Handle}
use Rattle.ls_formats.specs.Files.{format_of}
use Rattle.ls_formats.specs.Contents.{IsHandle, handle_bytes}
use Rattle.ls_formats.proofs.ContentLemmas.{spelled_fault, spelled_value, handle_of, handle_format, handle_long}
use Rattle.ls_formats.proofs.handle.HandleFile.parse.Goals as goal

pub handle_of-requires : goal.handle_of-requires
handle_of-requires c = handle_long c.args.bytes.now c.in-None.ensures.first

pub returns-in-Some-clause-exact : goal.returns-in-Some-clause-exact
returns-in-Some-clause-exact c = spelled_fault (format_of Handle) IsHandle handle_bytes handle_of handle_format c.args.bytes.now c.in-Some.at c.in-Some.ensures.first

pub returns-in-None-clause-exact : goal.returns-in-None-clause-exact
returns-in-None-clause-exact c =
    spelled_value (format_of Handle) IsHandle handle_bytes handle_of handle_format c.args.bytes.now c.in-None.ensures.first
    (handle_of c.handle_of.result) (ap handle_of c.handle_of.ensures.same)
