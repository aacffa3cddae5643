-- Rows by their numbers, with spare places.
use Rattle.std.specs.Prelude.{ℕ, List}

-- the rows, and how many more can be put without memory
pub record Places (V : Type 0) : Type 0 where
  pub rows : List (ℕ × V)
  pub spare : ℕ
