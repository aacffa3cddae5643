use Rattle.std.proofs.Common.{take}
use Rattle.ls_placing.specs.Placing.{AreTakenIds}
use Rattle.ls_placing.proofs.ids.add_said.Given as goal

abbrev pub invariant-loop-name : goal.invariant-loop-name
invariant-loop-name l = AreTakenIds (take l.name-index l.names) l.fn.ids l.ids
