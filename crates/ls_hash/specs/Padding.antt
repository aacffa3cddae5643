-- Lists of bytes that are filled up with zeros.
use Rattle.std.specs.Prelude.{◌-◌, ◌++◌, ℕ, List, length, replicate}

-- a list and zeros behind it, n bytes in all
abbrev pub padded : ℕ → List ℕ → List ℕ
padded n xs = xs ++ replicate (n - length xs) 0
