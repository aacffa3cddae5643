-- Sixteen words as four vectors. In the square of 4 by 4 words that RFC 7914, 3, works on, each
-- vector is a diagonal.
use Rattle.std.specs.Prelude.{ℕ, List, [], ◌∷◌, slice_index}
use Rattle.ls_scrypt.specs.Salsa.{bytes}
use Rattle.ls_scrypt.specs.declared.diagonals.Diagonals.{Diagonals}

-- the words with numbers 0 to 15
abbrev pub words_of : Diagonals → List ℕ
words_of x =
    slice_index x.a 0 ∷ slice_index x.d 1 ∷ slice_index x.c 2 ∷ slice_index x.b 3
    ∷ slice_index x.b 0 ∷ slice_index x.a 1 ∷ slice_index x.d 2 ∷ slice_index x.c 3
    ∷ slice_index x.c 0 ∷ slice_index x.b 1 ∷ slice_index x.a 2 ∷ slice_index x.d 3
    ∷ slice_index x.d 0 ∷ slice_index x.c 1 ∷ slice_index x.b 2 ∷ slice_index x.a 3 ∷ []

-- the 64 bytes of these words
abbrev pub bytes_of : Diagonals → List ℕ
bytes_of x = bytes 16 (words_of x)
