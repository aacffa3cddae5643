-- What a reader of fields holds.
use Rattle.std.specs.Prelude.{◌≡◌, ◌+◌, ◌++◌, ℕ, List, length, drop}

-- the bytes that are left, and the place of the first of them, from 0
pub record Reading : Type 0 where
  pub left : List ℕ
  pub at : ℕ

-- a field of n bytes was read, and the reader moved past it
pub record Reads (n : ℕ) (field : List ℕ) (old new : Reading) : Type 0 where
  pub width : length field ≡ n
  pub left : old.left ≡ field ++ new.left
  pub rest : new.left ≡ drop n old.left
  pub at : new.at ≡ old.at + n
