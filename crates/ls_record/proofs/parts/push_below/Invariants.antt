use Rattle.std.proofs.Common.{◌≡◌, ◌++◌, take, ltb}
use Rattle.std.specs.List.{filter}
use Rattle.ls_record.proofs.parts.push_below.Given as goal

-- those before are put
abbrev pub invariant-loop-row : goal.invariant-loop-row
invariant-loop-row l = l.list ≡ l.fn.list ++ filter (λ r. ltb r.user l.user) (take l.row-index l.rows)
