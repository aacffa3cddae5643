use Rattle.std.proofs.Common.{◌≡◌, ◌++◌, map, take}
use Rattle.ls_board.specs.declared.action.Action.TheVariants.{KeyDrop}
use Rattle.ls_sweep.proofs.leftovers.push_drops.Given as goal

abbrev pub invariant-loop-alias : goal.invariant-loop-alias
invariant-loop-alias l = l.plan ≡ l.fn.plan ++ map KeyDrop (take l.alias-index l.aliases)
