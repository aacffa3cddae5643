-- AES-256 (FIPS 197) on lists of bytes. A state is sixteen bytes, column by column: row r of
-- column c is byte r + 4 c.
use Rattle.std.specs.Prelude.{ℕ, zero, suc, ◌+◌, ◌*◌, ◌/◌, ◌%◌, ◌==◌, List, [], ◌∷◌, ◌++◌, take, drop, map, bit_xor, slice_index, if◌then◌else◌}
use Rattle.std.specs.Int.{w32, to_be_bytes}
use Rattle.ls_bytes.specs.Joined.{xor}
use Rattle.ls_gcm.specs.Byte.{sbox, product}

-- SubBytes (5.1.1), and SubWord
abbrev pub sub_bytes : List ℕ → List ℕ
sub_bytes s = map sbox s

-- row r of column c
abbrev pub cell : List ℕ → ℕ → ℕ → ℕ
cell s r c = slice_index s (r + 4 * c)

-- column c after ShiftRows: row r comes from column c + r
abbrev pub shifted_column : List ℕ → ℕ → List ℕ
shifted_column s c =
    cell s 0 c ∷ cell s 1 ((c + 1) % 4) ∷ cell s 2 ((c + 2) % 4) ∷ cell s 3 ((c + 3) % 4) ∷ []

-- ShiftRows (5.1.2)
unfoldable pub shift_rows : List ℕ → List ℕ
shift_rows s = shifted_column s 0 ++ shifted_column s 1 ++ shifted_column s 2 ++ shifted_column s 3

-- the sum of four bytes in the field
abbrev pub sum_of : ℕ → ℕ → ℕ → ℕ → ℕ
sum_of a b c d = bit_xor (bit_xor (bit_xor a b) c) d

-- a column times the circulant matrix whose first row is 02, 03, 01, 01 (5.1.3)
abbrev pub mixed_column : ℕ → ℕ → ℕ → ℕ → List ℕ
mixed_column a b c d =
    sum_of (product 2 a) (product 3 b) c d
    ∷ sum_of a (product 2 b) (product 3 c) d
    ∷ sum_of a b (product 2 c) (product 3 d)
    ∷ sum_of (product 3 a) b c (product 2 d) ∷ []

-- column c after MixColumns
abbrev pub mixed_at : List ℕ → ℕ → List ℕ
mixed_at s c = mixed_column (cell s 0 c) (cell s 1 c) (cell s 2 c) (cell s 3 c)

-- MixColumns (5.1.3)
unfoldable pub mix_columns : List ℕ → List ℕ
mix_columns s = mixed_at s 0 ++ mixed_at s 1 ++ mixed_at s 2 ++ mixed_at s 3

-- word i of a list of bytes
abbrev pub word : List ℕ → ℕ → List ℕ
word w i = take 4 (drop (4 * i) w)

-- RotWord: (a, b, c, d) turned to (b, c, d, a) (5.2)
abbrev pub rot_word : List ℕ → List ℕ
rot_word w = drop 1 w ++ take 1 w

-- Rcon of the n-th multiple of 8: 01 at the first, and doubled in the field each time (5.2)
unfoldable pub rcon : ℕ → ℕ
rcon zero = 0
rcon (suc zero) = 1
rcon (suc (suc n)) = product 2 (rcon (suc n))

-- what is added to word i - 8, from the word t before word i (5.2)
abbrev pub key_step : List ℕ → ℕ → List ℕ
key_step t i =
    if i % 8 == 0 then xor (sub_bytes (rot_word t)) (rcon (i / 8) ∷ 0 ∷ 0 ∷ 0 ∷ [])
    else if i % 8 == 4 then sub_bytes t
    else t

-- the key's 8 words and n more (5.2)
unfoldable pub expanded : List ℕ → ℕ → List ℕ
expanded key zero = key
expanded key (suc n) =
    expanded key n
    ++ xor (word (expanded key n) n) (key_step (word (expanded key n) (n + 7)) (n + 8))

-- the words of round i
abbrev pub round_key : List ℕ → ℕ → List ℕ
round_key w i = take 16 (drop (16 * i) w)

-- the state s after a round with this key that isn't the last (5.1)
abbrev pub full_round : List ℕ → List ℕ → List ℕ
full_round s key = xor (mix_columns (shift_rows (sub_bytes s))) key

-- the block s after round n under the round words w, for n to 13 (5.1)
unfoldable pub rounds : List ℕ → List ℕ → ℕ → List ℕ
rounds w s zero = xor s (round_key w 0)
rounds w s (suc n) = full_round (rounds w s n) (round_key w (n + 1))

-- the bytes of a state of four columns that are numbers, the first byte of each the highest
abbrev pub column_bytes : List ℕ → List ℕ
column_bytes s =
    to_be_bytes w32 (slice_index s 0) ++ to_be_bytes w32 (slice_index s 1)
    ++ to_be_bytes w32 (slice_index s 2) ++ to_be_bytes w32 (slice_index s 3)

-- one block under the round words w: the last round has no MixColumns (5.1)
unfoldable pub encrypted : List ℕ → List ℕ → List ℕ
encrypted w s = xor (shift_rows (sub_bytes (rounds w s 13))) (round_key w 14)

-- AES-256 of a block under a key of 32 bytes
unfoldable pub aes256 : List ℕ → List ℕ → List ℕ
aes256 key s = encrypted (expanded key 52) s
