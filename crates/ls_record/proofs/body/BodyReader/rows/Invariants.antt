use Rattle.std.proofs.Common.{◌≡◌, ◌-◌, []}
use Rattle.ls_record.specs.Reading.{repeat, next_row_at}
use Rattle.ls_record.proofs.body.BodyReader.rows.Given as goal

-- what was read before, and what is still read
abbrev pub invariant-loop : goal.invariant-loop
invariant-loop l = repeat (next_row_at l.format) l.rows (l.n - l.counter) l.self ≡ repeat (next_row_at l.format) [] l.n l.fn.self
