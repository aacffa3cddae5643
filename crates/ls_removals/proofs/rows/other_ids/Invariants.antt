use Rattle.std.proofs.Common.{◌≡◌, not, take}
use Rattle.std.specs.Prelude.{◌==◌, filter}
use Rattle.ls_removals.proofs.rows.other_ids.Given as goal

abbrev pub invariant-loop-one : goal.invariant-loop-one
invariant-loop-one l = l.copy ≡ filter (λ t. not (t == l.id)) (take l.one-index l.ids)
