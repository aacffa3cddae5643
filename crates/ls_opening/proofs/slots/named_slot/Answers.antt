use Rattle.std.proofs.Common.{sym}
use Rattle.ls_opening.proofs.SlotLemmas.{no_slot}
use Rattle.ls_opening.proofs.slots.named_slot.Goals as goal

pub returns-in-Err : goal.returns-in-Err
returns-in-Err c = record { same = sym (no_slot c.args.bytes.now c.parse.result c.in-Err.field-0 c.in-Err.is c.parse.ensures.exact) }
