use Rattle.std.proofs.Common.{◌≡◌, ◌++◌, map, take}
use Rattle.ls_board.specs.declared.action.Action.TheVariants.{Remove}
use Rattle.ls_sweep.proofs.leftovers.push_removals.Given as goal

abbrev pub invariant-loop-name : goal.invariant-loop-name
invariant-loop-name l = l.plan ≡ l.fn.plan ++ map Remove (take l.name-index l.names)
