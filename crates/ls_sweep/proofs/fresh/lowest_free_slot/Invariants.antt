use Rattle.ls_sweep.specs.FreshIds.{AreTakenBelow}
use Rattle.ls_sweep.proofs.fresh.lowest_free_slot.Given as goal

abbrev pub invariant-loop-slot : goal.invariant-loop-slot
invariant-loop-slot l = AreTakenBelow l.slot l.taken
