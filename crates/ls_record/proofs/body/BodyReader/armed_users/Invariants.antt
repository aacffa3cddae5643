use Rattle.std.proofs.Common.{◌≡◌, ◌-◌, []}
use Rattle.ls_record.specs.Reading.{repeat, armed_user_at}
use Rattle.ls_record.proofs.body.BodyReader.armed_users.Given as goal

-- what was read before, and what is still read
abbrev pub invariant-loop : goal.invariant-loop
invariant-loop l = repeat (armed_user_at l.rows) l.users (l.n - l.counter) l.self ≡ repeat (armed_user_at l.rows) [] l.n l.fn.self
