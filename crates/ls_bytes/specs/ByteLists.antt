-- Lists of bytes of any length.
use Rattle.std.specs.Prelude.{◌<◌, ℕ, List, slice_index}

-- each element is a byte: a number below 256
abbrev pub AllAreBytes : List ℕ → Type 0
AllAreBytes xs = (i : ℕ) → slice_index xs i < 256
