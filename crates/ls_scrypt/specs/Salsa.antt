-- The Salsa20/8 Core (RFC 7914, 3). A word is a number below 2 ^ 32; word i of 64 bytes is at byte
-- 4 i, its low byte first.
use Rattle.std.specs.Prelude.{ℕ, zero, suc, ◌+◌, ◌*◌, ◌%◌, ◌^◌, List, [], ◌∷◌, ◌++◌, bit_xor, slice_index, slice_set}
use Rattle.std.specs.Int.{w32, rotate_left, from_le_bytes, to_le_bytes}
use Rattle.std.specs.Simd.Lanes.{zip2}

-- the sum of two words, with the carry dropped
abbrev pub add32 : ℕ → ℕ → ℕ
add32 x y = (x + y) % 2 ^ 32

-- b xor R (x + y, k), where R turns a word left by k bits
abbrev pub xor_turned : ℕ → ℕ → ℕ → ℕ → ℕ
xor_turned b x y k = bit_xor b (rotate_left w32 (add32 x y) k)

-- four words after the four steps that the standard puts into one line
unfoldable pub quarter : ℕ → ℕ → ℕ → ℕ → ℕ × ℕ × ℕ × ℕ
quarter a b c d =
    let b1 = xor_turned b a d 7 in
    let c1 = xor_turned c b1 a 9 in
    let d1 = xor_turned d c1 b1 13 in
    let a1 = xor_turned a d1 c1 18 in
    (a1, b1, c1, d1)

-- these steps on the words with these four numbers
unfoldable pub quarter_at : ℕ → ℕ → ℕ → ℕ → List ℕ → List ℕ
quarter_at i j k l x =
    let q = quarter (slice_index x i) (slice_index x j) (slice_index x k) (slice_index x l) in
    slice_set (slice_set (slice_set (slice_set x i q.0) j q.1) k q.2) l q.3

-- the columns: the first eight lines of the standard's loop
unfoldable pub column_round : List ℕ → List ℕ
column_round x =
    let x = quarter_at 0 4 8 12 x in
    let x = quarter_at 5 9 13 1 x in
    let x = quarter_at 10 14 2 6 x in
    quarter_at 15 3 7 11 x

-- the rows: its last eight lines
unfoldable pub row_round : List ℕ → List ℕ
row_round x =
    let x = quarter_at 0 1 2 3 x in
    let x = quarter_at 5 6 7 4 x in
    let x = quarter_at 10 11 8 9 x in
    quarter_at 15 12 13 14 x

-- the columns, and then the rows
abbrev pub double_round : List ℕ → List ℕ
double_round x = row_round (column_round x)

-- n double rounds
unfoldable pub double_rounds : ℕ → List ℕ → List ℕ
double_rounds zero x = x
double_rounds (suc n) x = double_round (double_rounds n x)

-- eight rounds, and the first words added, word by word
unfoldable pub salsa_words : List ℕ → List ℕ
salsa_words x = zip2 add32 (double_rounds 4 x) x

-- the word at byte i
abbrev pub word_at : List ℕ → ℕ → ℕ
word_at b i =
    from_le_bytes w32
    (slice_index b i ∷ slice_index b (i + 1) ∷ slice_index b (i + 2) ∷ slice_index b (i + 3) ∷ [])

-- the first n words of a list of bytes
unfoldable pub words : ℕ → List ℕ → List ℕ
words zero b = []
words (suc n) b = words n b ++ word_at b (4 * n) ∷ []

-- the bytes of the first n words of a list
unfoldable pub bytes : ℕ → List ℕ → List ℕ
bytes zero w = []
bytes (suc n) w = bytes n w ++ to_le_bytes w32 (slice_index w n)

-- Salsa20/8 of 64 bytes
unfoldable pub salsa20_8 : List ℕ → List ℕ
salsa20_8 b = bytes 16 (salsa_words (words 16 b))
