use Rattle.std.proofs.Common.{◌≡◌, ◌++◌, map, take}
use Rattle.ls_standing.specs.Clearing.{blank_write}
use Rattle.ls_sweep.proofs.leftovers.push_blanks.Given as goal

abbrev pub invariant-loop-slot : goal.invariant-loop-slot
invariant-loop-slot l = l.plan ≡ l.fn.plan ++ map blank_write (take l.slot-index l.slots)
