use Rattle.std.proofs.Common.{◌≡◌, map, take}
use Rattle.ls_questions.proofs.listing.numbers.Given as goal

abbrev pub invariant-loop-row : goal.invariant-loop-row
invariant-loop-row l = l.list ≡ map (λ r. r.user) (take l.row-index l.rows)
