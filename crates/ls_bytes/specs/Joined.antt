-- Two lists joined element by element, as far as the shorter one goes.
use Rattle.std.specs.Prelude.{◌++◌, ℕ, List, take, drop, bit_xor}
use Rattle.std.specs.Simd.Lanes.{zip2}

-- two lists of bytes, xor byte by byte
abbrev pub xor : List ℕ → List ℕ → List ℕ
xor xs ys = zip2 bit_xor xs ys

-- xs with its first i elements joined with those of ys, as a loop over xs leaves it
abbrev pub joined_to : (ℕ → ℕ → ℕ) → List ℕ → List ℕ → ℕ → List ℕ
joined_to f xs ys i = zip2 f (take i xs) (take i ys) ++ drop i xs
