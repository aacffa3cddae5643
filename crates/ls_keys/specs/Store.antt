-- What a key store holds.
use Rattle.std.specs.Prelude.{ℕ, List}

-- the keys by their aliases, and how many more aliases can have one without memory
pub record Store : Type 0 where
  pub keys : List (ℕ × List ℕ)
  pub spare : ℕ
