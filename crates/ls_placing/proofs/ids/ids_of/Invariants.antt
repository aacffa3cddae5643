use Rattle.std.proofs.Common.{◌≡◌, take}
use Rattle.ls_placing.specs.Placing.{ids_of}
use Rattle.ls_placing.proofs.ids.ids_of.Given as goal

abbrev pub invariant-loop-one : goal.invariant-loop-one
invariant-loop-one l = l.ids ≡ ids_of (take l.one-index l.named)
