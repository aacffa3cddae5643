-- The product of two blocks: a bit at a time, linear, and four bits at a time.
use Rattle.std.proofs.Common.{◌≡◌, ℕ, zero, suc, ◌+◌, ◌/◌, ◌%◌, ◌^◌, Bool, true, false, bit_xor, eqb, cond, refl, sym, ap, ◌∙◌, arith, inl, inr, ◌⊎◌, shr-shr}
use Rattle.std.specs.Int.{bit_at}
use Rattle.std.proofs.lemmas.Bool.{cases_lt, eq-eqb}
use Rattle.std.proofs.lemmas.Bool.Decides.{nat_tests}
use Rattle.std.proofs.lemmas.Nat.{xor_shr, xor_mod, xor_comm}
use lib.Bits.{xor_assoc, xor_zero_l, xor_zero_r, xor_self}
use Rattle.ls_gcm.specs.Blocks.{times_x, times_x4, product_of, reduction}

-- one bit of the product, moved into what is gathered
pub product_more : (n x z v : ℕ) (t : Bool) (z' v' : ℕ) → eqb (bit_at x n) 1 ≡ t → z' ≡ cond t (bit_xor z v) z → v' ≡ times_x v
    → bit_xor z' (product_of n x v') ≡ bit_xor z (product_of (suc n) x v)
unfolding product_of
product_more n x z v true z' v' et ez ev = rw (et, ez, ev) (xor_assoc z v _)
product_more n x z v false z' v' et ez ev = rw (et, ez, ev, xor_zero_l) refl

-- a number is even or odd
parity : (v : ℕ) → (v % 2 ≡ 0) ⊎ (v % 2 ≡ 1)
parity v = elim (cases_lt (v % 2) 1) [ inl lt ↦ inl (omega arith) | inr ge ↦ inr (omega arith) ]

times_x_even : (v : ℕ) → v % 2 ≡ 0 → times_x v ≡ v / 2
unfolding times_x
times_x_even v e = let t : eqb (v % 2) 0 ≡ true = eq-eqb (v % 2) 0 e in rw t refl

times_x_odd : (v : ℕ) → v % 2 ≡ 1 → times_x v ≡ bit_xor (v / 2) reduction
unfolding times_x
times_x_odd v e = let t : eqb (v % 2) 0 ≡ false = grind (arith, nat_tests) in rw t refl

-- the middle two of four are exchanged
swapped : (a b r : ℕ) → bit_xor (bit_xor a b) r ≡ bit_xor (bit_xor a r) b
swapped a b r = xor_assoc a b r ∙ ap (bit_xor a) (xor_comm b r) ∙ sym (xor_assoc a r b)

cancelled : (a b r : ℕ) → bit_xor (bit_xor a r) (bit_xor b r) ≡ bit_xor a b
cancelled a b r =
    sym (xor_assoc (bit_xor a r) b r) ∙ ap (λ (t : ℕ). bit_xor t r) (sym (swapped a b r)) ∙ xor_assoc (bit_xor a b) r r
    ∙ ap (bit_xor (bit_xor a b)) (xor_self r) ∙ xor_zero_r (bit_xor a b)

halves : (a b : ℕ) → bit_xor a b / 2 ≡ bit_xor (a / 2) (b / 2)
halves a b = xor_shr a b 1

bits : (a b x y : ℕ) → a % 2 ≡ x → b % 2 ≡ y → bit_xor a b % 2 ≡ bit_xor x y
bits a b x y ex ey = xor_mod a b 1 ∙ rw (ex, ey) refl

-- x times a sum
pub times_x-xor : (a b : ℕ) → times_x (bit_xor a b) ≡ bit_xor (times_x a) (times_x b)
times_x-xor a b = elim (parity a) [
  | inl ea ↦ elim (parity b) [
    | inl eb ↦ rw (times_x_even (bit_xor a b) (bits a b 0 0 ea eb), times_x_even a ea, times_x_even b eb) (halves a b)
    | inr eb ↦ rw (times_x_odd (bit_xor a b) (bits a b 0 1 ea eb), times_x_even a ea, times_x_odd b eb, halves a b) (xor_assoc (a / 2) (b / 2) reduction)
  ]
  | inr ea ↦ elim (parity b) [
    | inl eb ↦ rw (times_x_odd (bit_xor a b) (bits a b 1 0 ea eb), times_x_odd a ea, times_x_even b eb, halves a b) (swapped (a / 2) (b / 2) reduction)
    | inr eb ↦ rw (times_x_even (bit_xor a b) (bits a b 1 1 ea eb), times_x_odd a ea, times_x_odd b eb, halves a b) (sym (cancelled (a / 2) (b / 2) reduction))
  ]
]

times_x-zero : times_x 0 ≡ 0
unfolding times_x
times_x-zero = refl

times_x-one : times_x 1 ≡ reduction
unfolding times_x
times_x-one = refl

times_x-cond : (t : Bool) (v : ℕ) → times_x (cond t v 0) ≡ cond t (times_x v) 0
times_x-cond true v = refl
times_x-cond false v = times_x-zero

-- the product with x times v is x times the product
pub product-times_x : (n x v : ℕ) → product_of n x (times_x v) ≡ times_x (product_of n x v)
unfolding product_of
product-times_x zero x v = sym times_x-zero
product-times_x (suc n) x v =
    rw (times_x-xor (cond (eqb (bit_at x n) 1) v 0) (product_of n x (times_x v)), times_x-cond (eqb (bit_at x n) 1) v, product-times_x n x (times_x v)) refl

pub product-times_x4 : (n x v : ℕ) → product_of n x (times_x4 v) ≡ times_x4 (product_of n x v)
product-times_x4 n x v =
    product-times_x n x _ ∙ ap times_x (product-times_x n x _ ∙ ap times_x (product-times_x n x _ ∙ ap times_x (product-times_x n x v)))

four_xor : (a b c d p : ℕ) → bit_xor a (bit_xor b (bit_xor c (bit_xor d p))) ≡ bit_xor p (bit_xor a (bit_xor b (bit_xor c (bit_xor d 0))))
four_xor a b c d p =
    rw (xor_zero_r d, xor_comm p (bit_xor a (bit_xor b (bit_xor c d))), xor_assoc a (bit_xor b (bit_xor c d)) p, xor_assoc b (bit_xor c d) p, xor_assoc c d p) refl

-- a bit of four bits
bit_of : (x n j m : ℕ) → n + j ≡ m → (x / 2 ^ n % 16) / 2 ^ j % 2 ≡ x / 2 ^ n / 2 ^ j % 2 → bit_at x m ≡ bit_at (x / 2 ^ n % 16) j
bit_of x n j m at e = ap (bit_at x) (sym at) ∙ sym (ap (λ (t : ℕ). t % 2) (shr-shr x n j)) ∙ sym e

-- four bits more
pub product_four : (n x v : ℕ) → product_of (n + 4) x v ≡ bit_xor (times_x4 (product_of n x v)) (product_of 4 (x / 2 ^ n % 16) v)
unfolding product_of
product_four n x v =
    let e : n + 4 ≡ suc (suc (suc (suc n))) = omega arith in
    let b3 : bit_at x (suc (suc (suc n))) ≡ bit_at (x / 2 ^ n % 16) 3 = bit_of x n 3 (suc (suc (suc n))) (omega arith) (omega arith) in
    let b2 : bit_at x (suc (suc n)) ≡ bit_at (x / 2 ^ n % 16) 2 = bit_of x n 2 (suc (suc n)) (omega arith) (omega arith) in
    let b1 : bit_at x (suc n) ≡ bit_at (x / 2 ^ n % 16) 1 = bit_of x n 1 (suc n) (omega arith) (omega arith) in
    let b0 : bit_at x n ≡ bit_at (x / 2 ^ n % 16) 0 = bit_of x n 0 n (omega arith) (omega arith) in
    let y : ℕ = x / 2 ^ n % 16 in
    rw (e, b3, b2, b1, b0, product-times_x4 n x v)
    (four_xor (cond (eqb (bit_at y 3) 1) v 0) (cond (eqb (bit_at y 2) 1) (times_x v) 0) (cond (eqb (bit_at y 1) 1) (times_x (times_x v)) 0)
    (cond (eqb (bit_at y 0) 1) (times_x (times_x (times_x v))) 0) (times_x4 (product_of n x v)))

-- four bits more, by the multiple of a table
pub nibble_more : (n m x v z four entry : ℕ) → m ≡ n + 4 → z ≡ product_of n x v → four ≡ times_x4 z → entry ≡ product_of 4 (x / 2 ^ n % 16) v
    → bit_xor four entry ≡ product_of m x v
nibble_more n m x v z four entry em ez ef ee = rw (ef, ez, ee, em) (sym (product_four n x v))

-- ---- x ^ 4, by the last four bits

-- x times a block is its half, and what x makes of its last bit
last_bit : (v : ℕ) → times_x v ≡ bit_xor (v / 2) (times_x (v % 2))
last_bit v = elim (parity v) [
  | inl e ↦ rw (times_x_even v e, e, times_x-zero) (sym (xor_zero_r (v / 2)))
  | inr e ↦ rw (times_x_odd v e, e) (ap (bit_xor (v / 2)) (sym times_x-one))
]

-- a number q with x d, x ^ 2 c, x ^ 3 b and x ^ 4 a
abbrev with_bits : ℕ → ℕ → ℕ → ℕ → ℕ → ℕ
with_bits q a b c d =
    bit_xor (bit_xor (bit_xor (bit_xor q (times_x d)) (times_x (times_x c))) (times_x (times_x (times_x b)))) (times_x4 a)

two_last : (v : ℕ) → times_x (times_x v) ≡ bit_xor (bit_xor (v / 2 / 2) (times_x (v / 2 % 2))) (times_x (times_x (v % 2)))
two_last v =
    ap times_x (last_bit v) ∙ times_x-xor (v / 2) (times_x (v % 2))
    ∙ ap (λ (t : ℕ). bit_xor t (times_x (times_x (v % 2)))) (last_bit (v / 2))

three_last : (v : ℕ) → times_x (times_x (times_x v))
    ≡ bit_xor (bit_xor (bit_xor (v / 2 / 2 / 2) (times_x (v / 2 / 2 % 2))) (times_x (times_x (v / 2 % 2)))) (times_x (times_x (times_x (v % 2))))
three_last v =
    ap (λ (t : ℕ). times_x (times_x t)) (last_bit v) ∙ ap times_x (times_x-xor (v / 2) (times_x (v % 2)))
    ∙ times_x-xor (times_x (v / 2)) (times_x (times_x (v % 2)))
    ∙ ap (λ (t : ℕ). bit_xor t (times_x (times_x (times_x (v % 2))))) (two_last (v / 2))

four_last : (v : ℕ) → times_x4 v ≡ with_bits (v / 2 / 2 / 2 / 2) (v % 2) (v / 2 % 2) (v / 2 / 2 % 2) (v / 2 / 2 / 2 % 2)
four_last v =
    ap (λ (t : ℕ). times_x (times_x (times_x t))) (last_bit v)
    ∙ ap (λ (t : ℕ). times_x (times_x t)) (times_x-xor (v / 2) (times_x (v % 2)))
    ∙ ap times_x (times_x-xor (times_x (v / 2)) (times_x (times_x (v % 2))))
    ∙ times_x-xor (times_x (times_x (v / 2))) (times_x (times_x (times_x (v % 2))))
    ∙ ap (λ (t : ℕ). bit_xor t (times_x4 (v % 2))) (three_last (v / 2))

five_xor : (q a b c d : ℕ) → bit_xor q (bit_xor (bit_xor (bit_xor (bit_xor 0 a) b) c) d) ≡ bit_xor (bit_xor (bit_xor (bit_xor q a) b) c) d
five_xor q a b c d =
    rw (
      xor_zero_l a,
      xor_assoc (bit_xor (bit_xor q a) b) c d,
      xor_assoc (bit_xor q a) b (bit_xor c d),
      xor_assoc q a (bit_xor b (bit_xor c d)),
      xor_assoc (bit_xor a b) c d,
      xor_assoc a b (bit_xor c d),
    ) refl

-- x ^ 4 times a block is what it makes of the last four bits, and the others moved
pub times_x4-parted : (v : ℕ) → times_x4 v ≡ bit_xor (v / 16) (times_x4 (v % 16))
times_x4-parted v =
    let r : ℕ = v % 16 in
    let none : r / 2 / 2 / 2 / 2 ≡ 0 = omega arith in
    let b0 : r % 2 ≡ v % 2 = omega arith in
    let b1 : r / 2 % 2 ≡ v / 2 % 2 = omega arith in
    let b2 : r / 2 / 2 % 2 ≡ v / 2 / 2 % 2 = omega arith in
    let b3 : r / 2 / 2 / 2 % 2 ≡ v / 2 / 2 / 2 % 2 = omega arith in
    let rest : v / 2 / 2 / 2 / 2 ≡ v / 16 = omega arith in
    let a : ℕ = times_x4 (v % 2) in
    let b : ℕ = times_x (times_x (times_x (v / 2 % 2))) in
    let c : ℕ = times_x (times_x (v / 2 / 2 % 2)) in
    let d : ℕ = times_x (v / 2 / 2 / 2 % 2) in
    let last : times_x4 r ≡ with_bits 0 (v % 2) (v / 2 % 2) (v / 2 / 2 % 2) (v / 2 / 2 / 2 % 2) =
    four_last r ∙ rw (none, b0, b1, b2, b3) refl in
    four_last v ∙ rw (rest, last) (sym (five_xor (v / 16) d c b a))

-- ---- the table's own block

pub product_one : (h : ℕ) → product_of 4 8 h ≡ h
unfolding product_of
product_one h = rw (xor_zero_r h) refl
