-- The counter blocks, and a text under their stream.
use Rattle.std.proofs.Common.{◌≡◌, ℕ, ◌+◌, ◌-◌, ◌*◌, ◌<◌, min, List, [], ◌∷◌, ◌++◌, length, take, drop, bit_xor, refl, ap, sym, ◌∙◌, arith, add-one, inl, inr}
use Rattle.std.proofs.lemmas.List.{take_all, drop_all, take_at, drop_at, append-nil, length-append, length-drop}
use Rattle.std.proofs.lemmas.Bool.{cases_lt}
use Rattle.std.specs.Simd.Lanes.{zip2}
use borrow.Rule.Slice.PartMut.{put_mid}
use Rattle.ls_gcm.specs.Aes.{aes256}
use Rattle.ls_gcm.specs.Gcm.{counter, stream, crypted, block_count}
use Rattle.ls_bytes.proofs.JoinedLemmas.{joined_block}

-- bytes written over a list's end
pub put_at_end : (a k : ℕ) (x z y : List ℕ) → length x ≡ a → length z ≡ k → put_mid a k (x ++ z) y ≡ x ++ y
put_at_end a k x z y lx lz =
    rw (take_at x z a lx, drop_at x z a lx, drop_all k z (omega arith), append-nil y) refl

-- a block that may be cut
part_cut : (xs : List ℕ) (i k e : ℕ) → e ≡ min (i + 16) (length xs) → k ≡ e - i → i < length xs
    → (take k (drop i xs) ≡ take 16 (drop i xs)) × (drop (i + k) xs ≡ drop (i + 16) xs)
part_cut xs i k e ee ek lt = elim (cases_lt (length xs) (i + 16)) [
  | inl short ↦
      let long : length (drop i xs) ≡ length xs - i = length-drop i xs in (
        take_all k (drop i xs) (omega arith) ∙ sym (take_all 16 (drop i xs) (omega arith)),
        drop_all (i + k) xs (omega arith) ∙ sym (drop_all (i + 16) xs (omega arith)),
      )
  | inr whole ↦
      let is : k ≡ 16 = omega arith in
      (ap (λ (n : ℕ). take n (drop i xs)) is, ap (λ (n : ℕ). drop (i + n) xs) is)
]

-- one more block of the stream
pub crypted_more : (key iv xs zs new bs b : List ℕ) (i k e : ℕ) → length bs ≡ 16 → bs ≡ aes256 key b → b ≡ counter iv (i + 1)
    → e ≡ min (16 * i + 16) (length xs) → k ≡ e - 16 * i → 16 * i < length xs
    → length (stream key iv i) ≡ 16 * i → zs ≡ zip2 bit_xor xs (stream key iv i) ++ drop (16 * i) xs
    → new ≡ zip2 bit_xor (take k (drop (16 * i) zs)) bs
    → (length (stream key iv (i + 1)) ≡ 16 * (i + 1)) × (put_mid (16 * i) k zs new ≡ zip2 bit_xor xs (stream key iv (i + 1)) ++ drop (16 * (i + 1)) xs)
unfolding stream
crypted_more key iv xs zs new bs b i k e lb eb ec ee ek lt ls at en =
    let cut = part_cut xs (16 * i) k e ee ek lt in
    let next : 16 * (i + 1) ≡ 16 * i + 16 = omega arith in
    let more : stream key iv (i + 1) ≡ stream key iv i ++ bs = rw (add-one i, eb, ec, add-one i) refl in
    rw (more, next) (
      omega (arith, length-append (stream key iv i) bs),
      joined_block bit_xor xs (stream key iv i) bs zs new (16 * i) k 16 ls (omega arith) lb cut.0 cut.1 at en,
    )

-- after the last block
pub crypted_all : (key iv xs zs : List ℕ) (i : ℕ) → i ≡ block_count (length xs) → zs ≡ zip2 bit_xor xs (stream key iv i) ++ drop (16 * i) xs
    → zs ≡ crypted key iv xs
unfolding crypted
crypted_all key iv xs zs i e at =
    let past : drop (16 * i) xs ≡ [] = drop_all (16 * i) xs (omega arith) in
    at ∙ rw (past, append-nil (zip2 bit_xor xs (stream key iv i)), e) refl

zip2-nil : (xs : List ℕ) → zip2 bit_xor xs [] ≡ []
zip2-nil [] = refl
zip2-nil (x ∷ xs) = refl

-- before the first block
pub crypted_none : (key iv xs : List ℕ) → (length (stream key iv 0) ≡ 0) × (xs ≡ zip2 bit_xor xs (stream key iv 0) ++ xs)
unfolding stream
crypted_none key iv xs = (refl, rw (zip2-nil xs) refl)
