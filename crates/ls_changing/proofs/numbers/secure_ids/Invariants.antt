use Rattle.std.proofs.Common.{◌≡◌, take, map}
use Rattle.ls_changing.proofs.numbers.secure_ids.Given as goal

abbrev pub invariant-loop-row : goal.invariant-loop-row
invariant-loop-row l = l.ids ≡ map (λ row. row.secure) (take l.row-index l.rows)
