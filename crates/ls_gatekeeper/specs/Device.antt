-- What a Gatekeeper holds.
use Rattle.std.specs.Prelude.{ℕ, List}
use Rattle.ls_board.specs.declared.devices.Counter.{Counter}

-- the key under which it signs, the counters by their ids, and how many more ids it can enroll
-- without memory
pub record Device : Type 0 where
  pub key : List ℕ
  pub records : List (ℕ × Counter)
  pub spare : ℕ
