-- Vectors of four words, and lists of sixteen.
use Rattle.std.proofs.Common.{◌≡◌, ℕ, zero, suc, ◌<◌, ◌+◌, ◌-◌, ◌*◌, ◌/◌, ◌%◌, ◌^◌, List, [], ◌∷◌, length, slice_index, bit_or, bit_xor, arith, refl, sym, ◌∙◌, take, Fits, w32}
use Rattle.std.proofs.lemmas.List.{take_all}
use Rattle.std.proofs.lemmas.Simd.{put_chunk_whole, length-zip2}
use Rattle.std.specs.Simd.Lanes.{zip2, put_chunk}
use lib.Lanes.{Each1}
use Rattle.ls_scrypt.specs.Diagonals.{words_of}
use Rattle.ls_scrypt.specs.declared.diagonals.Diagonals.{Diagonals}
use Rattle.ls_scrypt.specs.Salsa.{xor_turned}

-- what holds of each of the four lanes
pub below_four : (P : ℕ → Type 0) → P 0 → P 1 → P 2 → P 3 → (j : ℕ) → j < 4 → P j
below_four P p0 p1 p2 p3 zero h = p0
below_four P p0 p1 p2 p3 (suc zero) h = p1
below_four P p0 p1 p2 p3 (suc (suc zero)) h = p2
below_four P p0 p1 p2 p3 (suc (suc (suc zero))) h = p3
below_four P p0 p1 p2 p3 (suc (suc (suc (suc n)))) h = absurd (omega arith)

-- what holds of each list of four elements
pub four_lanes : (P : List ℕ → Type 0) → ((a b c d : ℕ) → P (a ∷ b ∷ c ∷ d ∷ [])) → (xs : List ℕ) → length xs ≡ 4 → P xs
four_lanes P p (a ∷ b ∷ c ∷ d ∷ []) h = p a b c d
four_lanes P p [] h = absurd (omega arith)
four_lanes P p (a ∷ []) h = absurd (omega arith)
four_lanes P p (a ∷ b ∷ []) h = absurd (omega arith)
four_lanes P p (a ∷ b ∷ c ∷ []) h = absurd (omega arith)
four_lanes P p (a ∷ b ∷ c ∷ d ∷ e ∷ xs) h = absurd (omega arith)

-- the code's sum, shifts, or and xor of each lane are the definition's
abbrev Turns : ℕ → List ℕ → List ℕ → List ℕ → Type 0
Turns k b x y = (j : ℕ) → j < 4
    → slice_index (zip2 bit_xor b (zip2 bit_or
    (zip2 (λ s n. s * 2 ^ n % 2 ^ 32) (zip2 (λ s t. (s + t) % 2 ^ 32) x y) (k ∷ k ∷ k ∷ k ∷ []))
    (zip2 (λ s n. s / 2 ^ n) (zip2 (λ s t. (s + t) % 2 ^ 32) x y) ((32 - k) ∷ (32 - k) ∷ (32 - k) ∷ (32 - k) ∷ [])))) j
    ≡ xor_turned (slice_index b j) (slice_index x j) (slice_index y j) k

pub lanes_turn : (k : ℕ) → 0 < k → k < 32 → (b : List ℕ) → length b ≡ 4 → (x : List ℕ) → length x ≡ 4 → (y : List ℕ) → length y ≡ 4 → Turns k b x y
lanes_turn k low high =
    let left : k % 32 ≡ k = omega arith in
    let right : (32 - k) % 32 ≡ 32 - k = omega arith in
    four_lanes (λ b. (x : List ℕ) → length x ≡ 4 → (y : List ℕ) → length y ≡ 4 → Turns k b x y) (λ b0 b1 b2 b3.
    four_lanes (λ x. (y : List ℕ) → length y ≡ 4 → Turns k (b0 ∷ b1 ∷ b2 ∷ b3 ∷ []) x y) (λ x0 x1 x2 x3.
    four_lanes (Turns k (b0 ∷ b1 ∷ b2 ∷ b3 ∷ []) (x0 ∷ x1 ∷ x2 ∷ x3 ∷ [])) (λ y0 y1 y2 y3.
    below_four _ (rw (left, right) refl) (rw (left, right) refl) (rw (left, right) refl) (rw (left, right) refl))))

-- the whole list loaded, joined with another, and stored
pub stored_whole : (f : ℕ → ℕ → ℕ) (n : ℕ) (xs ys : List ℕ) → length xs ≡ n → length ys ≡ n
    → put_chunk 0 xs (zip2 f (take n xs) (take n ys)) ≡ zip2 f xs ys
stored_whole f n xs ys lx ly =
    let tx : take n xs ≡ xs = take_all n xs (omega arith) in
    let ty : take n ys ≡ ys = take_all n ys (omega arith) in
    rw (tx, ty) (put_chunk_whole xs (zip2 f xs ys) (sym (length-zip2 f xs ys (lx ∙ sym ly))))

-- every lane of a vector is a word
pub each_small : (xs : List ℕ) → Each1 (Fits w32) xs → (i : ℕ) → slice_index xs i < 2 ^ 32
each_small [] h i = omega arith
each_small (x ∷ xs) h zero = omega (arith, h.0)
each_small (x ∷ xs) h (suc i) = each_small xs h.1 i

each_below : (xs : List ℕ) → Each1 (λ x. x < 2 ^ 32) xs → (i : ℕ) → slice_index xs i < 2 ^ 32
each_below [] h i = omega arith
each_below (x ∷ xs) h zero = h.0
each_below (x ∷ xs) h (suc i) = each_below xs h.1 i

-- the words of four vectors, in the order of the square
pub words_of-small : (x : Diagonals) → ((j : ℕ) → slice_index x.a j < 2 ^ 32) → ((j : ℕ) → slice_index x.b j < 2 ^ 32)
    → ((j : ℕ) → slice_index x.c j < 2 ^ 32) → ((j : ℕ) → slice_index x.d j < 2 ^ 32)
    → (i : ℕ) → slice_index (words_of x) i < 2 ^ 32
words_of-small x a b c d =
    each_below (words_of x)
    (a 0, (d 1, (c 2, (b 3, (b 0, (a 1, (d 2, (c 3, (c 0, (b 1, (a 2, (d 3, (d 0, (c 1, (b 2, (a 3, tt))))))))))))))))
