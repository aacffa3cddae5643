-- GHASH of a ciphertext, a block at a time.
use Rattle.std.proofs.Common.{◌≡◌, ℕ, ◌+◌, ◌-◌, ◌*◌, ◌%◌, ◌^◌, ◌<◌, List, [], ◌∷◌, ◌++◌, length, take, drop, replicate, bit_xor, refl, ap, sym, ◌∙◌, arith, add-one, inl, inr}
use Rattle.std.proofs.lemmas.List.{take_all, take_at, drop_at, append-nil, append_assoc, length-append, length-drop, length-replicate, length-take-le, take-append-le, drop-append-le}
use Rattle.std.proofs.lemmas.Bool.{cases_lt}
use Rattle.std.specs.Int.{w64, to_be_bytes}
use Rattle.ls_gcm.specs.Blocks.{number, product}
use Rattle.ls_gcm.specs.Gcm.{block, block_count, ghash, bit_lengths, hashed_text}

-- the zeros up to a whole number of blocks
abbrev zeros : List ℕ → List ℕ
zeros c = replicate (16 * block_count (length c) - length c) 0

-- a block of the ciphertext, with zeros where it is cut
pub text_block : (c : List ℕ) (i : ℕ) → 16 * i < length c
    → block (hashed_text c) i ≡ block c i ++ replicate (16 - length (block c i)) 0
text_block c i lt =
    let rest : List ℕ = bit_lengths (length c) in
    let joined : hashed_text c ≡ c ++ (zeros c ++ rest) = append_assoc c (zeros c) rest in
    let from : drop (16 * i) (hashed_text c) ≡ drop (16 * i) c ++ (zeros c ++ rest) =
    ap (drop (16 * i)) joined ∙ drop-append-le (16 * i) c (zeros c ++ rest) (omega arith) in
    let left : length (drop (16 * i) c) ≡ length c - 16 * i = length-drop (16 * i) c in
    elim (cases_lt (length c) (16 * i + 16)) [
      | inl cut ↦
          let here : block c i ≡ drop (16 * i) c = take_all 16 (drop (16 * i) c) (omega arith) in
          let some : 16 * block_count (length c) - length c ≡ 16 - length (drop (16 * i) c) = omega arith in
          let whole : length (drop (16 * i) c ++ zeros c) ≡ 16 =
          omega (arith, length-append (drop (16 * i) c) (zeros c), length-replicate {A = ℕ} (16 * block_count (length c) - length c) 0) in
          ap (take 16) (from ∙ sym (append_assoc (drop (16 * i) c) (zeros c) rest))
          ∙ take_at (drop (16 * i) c ++ zeros c) rest 16 whole
          ∙ rw (here, some) refl
      | inr full ↦
          let short : length (block c i) ≡ 16 = length-take-le 16 (drop (16 * i) c) (omega arith) in
          let none : 16 - length (block c i) ≡ 0 = omega arith in
          ap (take 16) from ∙ take-append-le 16 (drop (16 * i) c) (zeros c ++ rest) (omega arith)
          ∙ rw none (sym (append-nil (block c i)))
    ]

-- the last block is that of the lengths
pub last_block : (c : List ℕ) → block (hashed_text c) (block_count (length c)) ≡ bit_lengths (length c)
last_block c =
    let whole : length (c ++ zeros c) ≡ 16 * block_count (length c) =
    omega (arith, length-append c (zeros c), length-replicate {A = ℕ} (16 * block_count (length c) - length c) 0) in
    ap (take 16) (drop_at (c ++ zeros c) (bit_lengths (length c)) (16 * block_count (length c)) whole)
    ∙ refl

-- one more block
pub ghash_more : (h y n y' i : ℕ) (text b : List ℕ) → y ≡ ghash h text i → b ≡ block text i → n ≡ number b
    → y' ≡ product (bit_xor y n) h → y' ≡ ghash h text (i + 1)
unfolding ghash
ghash_more h y n y' i text b ey eb en e = rw (e, ey, en, eb, add-one i) refl

-- the block of the lengths
pub bit_lengths_is : (x : List ℕ) (n k : ℕ) → x ≡ to_be_bytes w64 k → k ≡ 8 * n % 2 ^ 64
    → 0 ∷ 0 ∷ 0 ∷ 0 ∷ 0 ∷ 0 ∷ 0 ∷ 0 ∷ (x ++ []) ≡ bit_lengths n
bit_lengths_is x n k ex ek = rw (append-nil x, ex, ek) refl
