use Rattle.std.proofs.Common.{◌≡◌, take}
use Rattle.ls_placing.specs.Placing.{slots_of}
use Rattle.ls_placing.proofs.slots.taken_slots.Given as goal

abbrev pub invariant-loop-one : goal.invariant-loop-one
invariant-loop-one l = l.slots ≡ slots_of (take l.one-index l.named)
