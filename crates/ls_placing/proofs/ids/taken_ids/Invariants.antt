use Rattle.std.proofs.Common.{take}
use Rattle.ls_turn.specs.Agreeing.{files_of}
use Rattle.ls_placing.specs.Placing.{AreTakenIds, ids_of}
use Rattle.ls_placing.proofs.ids.taken_ids.Given as goal

abbrev pub invariant-loop-one : goal.invariant-loop-one
invariant-loop-one l = AreTakenIds (files_of (take l.one-index l.retired)) (ids_of l.named) l.taken
