use Rattle.std.proofs.Common.{length}
use Rattle.ls_checker.proofs.named_slots.+one_names_slot.Given as goal

abbrev pub decreases-one_names_slot : goal.decreases-one_names_slot
decreases-one_names_slot l = length l.names.now
