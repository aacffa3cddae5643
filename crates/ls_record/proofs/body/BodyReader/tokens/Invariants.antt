use Rattle.std.proofs.Common.{◌≡◌, ◌-◌, []}
use Rattle.ls_record.specs.Reading.{repeat, token_at}
use Rattle.ls_record.proofs.body.BodyReader.tokens.Given as goal

-- what was read before, and what is still read
abbrev pub invariant-loop : goal.invariant-loop
invariant-loop l = repeat (token_at l.rows l.user) l.tokens (l.n - l.counter) l.self ≡ repeat (token_at l.rows l.user) [] l.n l.fn.self
