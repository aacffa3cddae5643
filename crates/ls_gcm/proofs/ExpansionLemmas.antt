-- The key's expansion, a word at a time.
use Rattle.std.proofs.Common.{◌≡◌, ℕ, zero, suc, ◌+◌, ◌-◌, ◌*◌, ◌≤◌, List, [], ◌∷◌, ◌++◌, length, take, drop, slice_index, bit_xor, eqb, true, ◌/◌, ◌%◌, refl, sym, ap, ◌∙◌, arith, add-one}
use Rattle.std.proofs.lemmas.List.{drop-take, take-take, take-append-le, take_at, take_all, length-append}
use Rattle.std.proofs.lemmas.Bool.{eq-eqb}
use lib.Bits.{xor_zero_r}
use Rattle.ls_gcm.specs.Byte.{sbox}
use Rattle.std.proofs.lemmas.Slice.{take-put_mid}
use Rattle.ls_gcm.proofs.ElementLemmas.{as_elements}
use borrow.Rule.Slice.PartMut.{put_mid}
use Rattle.ls_bytes.specs.Joined.{xor}
use Rattle.ls_gcm.specs.Aes.{word, key_step, expanded, rcon}

-- a word below the n words taken
word_below : (w : List ℕ) (i n : ℕ) → 4 * i + 4 ≤ n → word (take n w) i ≡ word w i
word_below w i n le =
    let e : n ≡ 4 * i + (n - 4 * i) = omega arith in
    let parted : drop (4 * i) (take n w) ≡ take (n - 4 * i) (drop (4 * i) w) =
    ap (λ (k : ℕ). drop (4 * i) (take k w)) e ∙ drop-take (4 * i) (n - 4 * i) w in
    ap (take 4) parted ∙ take-take 4 (n - 4 * i) (drop (4 * i) w) (omega arith)

-- one more word
pub expanded_more : (key w next : List ℕ) (n k : ℕ) → take (4 * n + 32) w ≡ expanded key n → 4 * n + 32 ≤ length w → length next ≡ 4
    → next ≡ xor (word w n) (key_step (word w (n + 7)) (n + 8))
    → take (4 * (n + 1) + 32) (put_mid (4 * n + 32) k w next) ≡ expanded key (n + 1)
unfolding expanded
expanded_more key w next n k held fits long is =
    let old : word (expanded key n) n ≡ word w n = ap (λ (x : List ℕ). word x n) (sym held) ∙ word_below w n (4 * n + 32) (omega arith) in
    let last : word (expanded key n) (n + 7) ≡ word w (n + 7) = ap (λ (x : List ℕ). word x (n + 7)) (sym held) ∙ word_below w (n + 7) (4 * n + 32) (omega arith) in
    take-put_mid (4 * n + 32) k w next (4 * (n + 1) + 32) (omega arith) fits
    ∙ rw (add-one n, held, is, old, last) refl

-- the words before the first step
pub begun : (key x t : List ℕ) → x ≡ key → length key ≡ 32 → length t ≡ 208 → (length (x ++ t) ≡ 240) × (take 32 (x ++ t) ≡ expanded key 0)
unfolding expanded
begun key x t e long rest =
    (omega (arith, length-append x t, ap length e), take_at x t 32 (ap length e ∙ long) ∙ e)

pub finished : (key w : List ℕ) (n : ℕ) → length w ≡ 240 → take (4 * n + 32) w ≡ expanded key n → n ≡ 52 → w ≡ expanded key 52
finished key w n long held e =
    let all : 4 * n + 32 ≡ 240 = omega arith in
    sym (take_all 240 w (omega arith)) ∙ ap (λ (k : ℕ). take k w) (sym all) ∙ held ∙ ap (expanded key) e

-- the step at a multiple of 8
pub key_step_eighth : (t : List ℕ) (i x0 x1 x2 x3 r : ℕ) → length t ≡ 4 → i % 8 ≡ 0 → r ≡ rcon (i / 8)
    → x0 ≡ sbox (slice_index t 1) → x1 ≡ sbox (slice_index t 2) → x2 ≡ sbox (slice_index t 3) → x3 ≡ sbox (slice_index t 0)
    → bit_xor x0 r ∷ x1 ∷ x2 ∷ x3 ∷ [] ≡ key_step t i
key_step_eighth t i x0 x1 x2 x3 r long at er e0 e1 e2 e3 =
    let test : eqb (i % 8) 0 ≡ true = eq-eqb (i % 8) 0 at in
    let listed = as_elements 4 t long in
    rw (test, e0, e1, e2, e3, er, listed) (rw (xor_zero_r, xor_zero_r, xor_zero_r) refl)

-- the key is the front of its words
pub expanded_front : (key : List ℕ) (n : ℕ) → length key ≡ 32 → (32 ≤ length (expanded key n)) × (take 32 (expanded key n) ≡ key)
unfolding expanded
expanded_front key zero e = (omega arith, take_all 32 key (omega arith))
expanded_front key (suc n) e =
    let before = expanded_front key n e in
    let more : List ℕ = xor (word (expanded key n) n) (key_step (word (expanded key n) (n + 7)) (n + 8)) in (
      omega (arith, before.0, length-append (expanded key n) more),
      take-append-le 32 (expanded key n) more before.0 ∙ before.1,
    )
