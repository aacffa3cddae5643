-- A round of AES, a column at a time.
use Rattle.std.proofs.Common.{◌≡◌, ℕ, ◌/◌, ◌^◌, List, [], ◌∷◌, ◌++◌, length, slice_index, bit_xor, refl, ap, ◌∙◌, arith}
use Rattle.std.proofs.lemmas.Nat.{xor_shr, xor_mod}
use Rattle.std.specs.Int.{w32, byte_at, to_be_bytes, rotate_right}
use Rattle.ls_bytes.specs.Joined.{xor}
use Rattle.ls_gcm.specs.declared.byte.TheConstants.{MIXED}
use Rattle.ls_gcm.specs.Aes.{column_bytes, mixed_column, full_round, mix_columns, shift_rows, word}
use Rattle.ls_gcm.specs.Byte.{sbox}
use Rattle.ls_gcm.proofs.ByteTables.{turned_0, turned_1, turned_2, turned_3, mixed_at_0, mixed_at_1, mixed_at_2, mixed_at_3}
use Rattle.ls_gcm.proofs.ElementLemmas.{as_elements}

-- the bytes of a sum are the sums of the bytes
to_be_bytes-xor : (x y : ℕ) → to_be_bytes w32 (bit_xor x y) ≡ xor (to_be_bytes w32 x) (to_be_bytes w32 y)
to_be_bytes-xor x y =
    rw (
      xor_shr x y 24,
      xor_mod (x / 2 ^ 24) (y / 2 ^ 24) 8,
      xor_shr x y 16,
      xor_mod (x / 2 ^ 16) (y / 2 ^ 16) 8,
      xor_shr x y 8,
      xor_mod (x / 2 ^ 8) (y / 2 ^ 8) 8,
      xor_mod x y 8,
    ) refl

sum_is : (x y : ℕ) (xs ys : List ℕ) → to_be_bytes w32 x ≡ xs → to_be_bytes w32 y ≡ ys → to_be_bytes w32 (bit_xor x y) ≡ xor xs ys
sum_is x y xs ys ex ey =
    let first : xor (to_be_bytes w32 x) (to_be_bytes w32 y) ≡ xor xs (to_be_bytes w32 y) =
    ap (λ (t : List ℕ). xor t (to_be_bytes w32 y)) ex in
    let second : xor xs (to_be_bytes w32 y) ≡ xor xs ys = ap (λ (t : List ℕ). xor xs t) ey in
    to_be_bytes-xor x y ∙ first ∙ second

-- one column, from the table
pub column_is : (a b c d key : ℕ)
    → to_be_bytes w32 (bit_xor (bit_xor (bit_xor (bit_xor (slice_index MIXED (byte_at 3 a))
    (rotate_right w32 (slice_index MIXED (byte_at 2 b)) 8)) (rotate_right w32 (slice_index MIXED (byte_at 1 c)) 16))
    (rotate_right w32 (slice_index MIXED (byte_at 0 d)) 24)) key)
    ≡ xor (mixed_column (sbox (byte_at 3 a)) (sbox (byte_at 2 b)) (sbox (byte_at 1 c)) (sbox (byte_at 0 d))) (to_be_bytes w32 key)
column_is a b c d key =
    let m0 : ℕ = slice_index MIXED (byte_at 3 a) in
    let m1 : ℕ = rotate_right w32 (slice_index MIXED (byte_at 2 b)) 8 in
    let m2 : ℕ = rotate_right w32 (slice_index MIXED (byte_at 1 c)) 16 in
    let m3 : ℕ = rotate_right w32 (slice_index MIXED (byte_at 0 d)) 24 in
    let two = sum_is m0 m1 (turned_0 (sbox (byte_at 3 a))) (turned_1 (sbox (byte_at 2 b)))
    (mixed_at_0 (byte_at 3 a) (omega arith)) (mixed_at_1 (byte_at 2 b) (omega arith)) in
    let three = sum_is (bit_xor m0 m1) m2 _ (turned_2 (sbox (byte_at 1 c))) two (mixed_at_2 (byte_at 1 c) (omega arith)) in
    let four = sum_is (bit_xor (bit_xor m0 m1) m2) m3 _ (turned_3 (sbox (byte_at 0 d))) three (mixed_at_3 (byte_at 0 d) (omega arith)) in
    sum_is (bit_xor (bit_xor (bit_xor m0 m1) m2) m3) key _ (to_be_bytes w32 key) four refl

-- the mixed column of the S-boxes of a byte of each column
abbrev mixed_of : ℕ → ℕ → ℕ → ℕ → List ℕ
mixed_of a b c d = mixed_column (sbox (byte_at 3 a)) (sbox (byte_at 2 b)) (sbox (byte_at 1 c)) (sbox (byte_at 0 d))

keyed : (r m : List ℕ) (k : ℕ) (w : List ℕ) → to_be_bytes w32 k ≡ w → r ≡ xor m (to_be_bytes w32 k) → r ≡ xor m w
keyed r m k w e is = is ∙ ap (λ (t : List ℕ). xor m t) e

joined : (a b c d x y z w : List ℕ) → a ≡ x → b ≡ y → c ≡ z → d ≡ w → a ++ b ++ c ++ d ≡ x ++ y ++ z ++ w
joined a b c d x y z w ea eb ec ed = cc

-- the four columns of a round
pub full_round_is : (a b c d r0 r1 r2 r3 k0 k1 k2 k3 : ℕ) (key : List ℕ) → length key ≡ 16
    → to_be_bytes w32 k0 ≡ word key 0 → to_be_bytes w32 k1 ≡ word key 1
    → to_be_bytes w32 k2 ≡ word key 2 → to_be_bytes w32 k3 ≡ word key 3
    → to_be_bytes w32 r0 ≡ xor (mixed_of a b c d) (to_be_bytes w32 k0) → to_be_bytes w32 r1 ≡ xor (mixed_of b c d a) (to_be_bytes w32 k1)
    → to_be_bytes w32 r2 ≡ xor (mixed_of c d a b) (to_be_bytes w32 k2) → to_be_bytes w32 r3 ≡ xor (mixed_of d a b c) (to_be_bytes w32 k3)
    → column_bytes (r0 ∷ r1 ∷ r2 ∷ r3 ∷ []) ≡ full_round (column_bytes (a ∷ b ∷ c ∷ d ∷ [])) key
unfolding shift_rows mix_columns
full_round_is a b c d r0 r1 r2 r3 k0 k1 k2 k3 key lk w0 w1 w2 w3 e0 e1 e2 e3 =
    let f0 = keyed (to_be_bytes w32 r0) (mixed_of a b c d) k0 (word key 0) w0 e0 in
    let f1 = keyed (to_be_bytes w32 r1) (mixed_of b c d a) k1 (word key 1) w1 e1 in
    let f2 = keyed (to_be_bytes w32 r2) (mixed_of c d a b) k2 (word key 2) w2 e2 in
    let f3 = keyed (to_be_bytes w32 r3) (mixed_of d a b c) k3 (word key 3) w3 e3 in
    let all = joined (to_be_bytes w32 r0) (to_be_bytes w32 r1) (to_be_bytes w32 r2) (to_be_bytes w32 r3)
    (xor (mixed_of a b c d) (word key 0)) (xor (mixed_of b c d a) (word key 1))
    (xor (mixed_of c d a b) (word key 2)) (xor (mixed_of d a b c) (word key 3)) f0 f1 f2 f3 in
    let ek = as_elements 16 key lk in
    all ∙ rw ek refl

-- the columns of a block
pub columns_are : (block : List ℕ) (k0 k1 k2 k3 : ℕ) → length block ≡ 16
    → to_be_bytes w32 k0 ≡ word block 0 → to_be_bytes w32 k1 ≡ word block 1
    → to_be_bytes w32 k2 ≡ word block 2 → to_be_bytes w32 k3 ≡ word block 3
    → column_bytes (k0 ∷ k1 ∷ k2 ∷ k3 ∷ []) ≡ block
columns_are block k0 k1 k2 k3 long w0 w1 w2 w3 =
    let all = joined (to_be_bytes w32 k0) (to_be_bytes w32 k1) (to_be_bytes w32 k2) (to_be_bytes w32 k3)
    (word block 0) (word block 1) (word block 2) (word block 3) w0 w1 w2 w3 in
    let listed = as_elements 16 block long in
    all ∙ rw listed refl
