use Rattle.std.proofs.Common.{◌≡◌, ◌++◌, take}
use Rattle.ls_activating.proofs.rows.push_all.Given as goal

abbrev pub invariant-loop-id : goal.invariant-loop-id
invariant-loop-id l = l.to ≡ l.fn.to ++ take l.id-index l.ids
