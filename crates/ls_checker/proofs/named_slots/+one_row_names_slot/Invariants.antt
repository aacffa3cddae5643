use Rattle.std.proofs.Common.{length}
use Rattle.ls_checker.proofs.named_slots.+one_row_names_slot.Given as goal

abbrev pub decreases-one_row_names_slot : goal.decreases-one_row_names_slot
decreases-one_row_names_slot l = length l.rows.now
