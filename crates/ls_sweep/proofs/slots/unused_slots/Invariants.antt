use Rattle.ls_sweep.specs.Sifted.{AreUnusedBelow}
use Rattle.ls_sweep.proofs.slots.unused_slots.Given as goal

abbrev pub invariant-loop-slot : goal.invariant-loop-slot
invariant-loop-slot l = AreUnusedBelow l.slot l.used l.left
