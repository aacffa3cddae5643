-- The first number that isn't taken.
use Rattle.std.specs.Prelude.{◌≡◌, ℕ, ◌+◌, ◌*◌, ◌%◌, ◌^◌, ◌<◌, true, false, List}
use Rattle.ls_arming.specs.Numbers.{contains}

-- the number that is so many steps of 2 from d on, with 0 after 2^64
abbrev pub step_from : ℕ → ℕ → ℕ
step_from d steps = (d + 2 * steps) % 2 ^ 64

-- It is some steps from d on, all that stand before it are taken, and it isn't.
pub record IsFirstFree (d : ℕ) (taken : List ℕ) (number : ℕ) : Type 0 where
  pub steps : ℕ
  pub reached : number ≡ step_from d steps
  pub before : (j : ℕ) → j < steps → contains taken (step_from d j) ≡ true
  pub free : contains taken number ≡ false
