use Rattle.std.proofs.Common.{◌≡◌, ◌++◌, map, take}
use Rattle.ls_board.specs.declared.action.Action.TheVariants.{GkForget}
use Rattle.ls_sweep.proofs.leftovers.push_forgets.Given as goal

abbrev pub invariant-loop-sid : goal.invariant-loop-sid
invariant-loop-sid l = l.plan ≡ l.fn.plan ++ map GkForget (take l.sid-index l.sids)
