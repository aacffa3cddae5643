use Rattle.std.proofs.Common.{◌∙◌, sym}
use Rattle.ls_weaver.specs.Slots.{blank_slot}
use Rattle.ls_memboard.proofs.SlotLemmas.{missing}
use Rattle.ls_memboard.proofs.answers.copy_of.Goals as goal

pub returns-in-None : goal.returns-in-None
returns-in-None c = record { same = c.blank.ensures.blank ∙ sym (missing c.args.slots.now c.args.slot blank_slot (sym c.in-None.ensures.found)) }
