-- Two lists joined element by element, in place and from the front; the second may be longer.
use Rattle.std.proofs.Common.{◌≡◌, ℕ, zero, suc, ◌+◌, ◌<◌, ◌≤◌, List, [], ◌∷◌, ◌++◌, length, take, drop, get_or, set, refl, ap, sym, ◌∙◌, arith, add-one}
use Rattle.std.proofs.lemmas.List.{append_assoc, take_at, drop_at, drop-drop, length-take-le}
use Rattle.std.proofs.lemmas.Simd.{length-zip2}
use Rattle.std.specs.Simd.Lanes.{zip2}
use borrow.Rule.Slice.PartMut.{put_mid}
use lib.Seq.{take-add}
use Rattle.ls_bytes.specs.Joined.{joined_to}

module _ (f : ℕ → ℕ → ℕ) where
  read : (xs ys : List ℕ) (i : ℕ) → length xs ≤ length ys → i < length xs
      → get_or (joined_to f xs ys i) i 0 ≡ get_or xs i 0
  read [] ys i e h = absurd (omega arith)
  read (x ∷ xs) [] i e h = absurd (omega arith)
  read (x ∷ xs) (y ∷ ys) zero e h = refl
  read (x ∷ xs) (y ∷ ys) (suc i) e h = read xs ys i (omega arith) (omega arith)

  write : (xs ys : List ℕ) (i : ℕ) → length xs ≤ length ys → i < length xs
      → set (joined_to f xs ys i) i (f (get_or xs i 0) (get_or ys i 0)) ≡ joined_to f xs ys (suc i)
  write [] ys i e h = absurd (omega arith)
  write (x ∷ xs) [] i e h = absurd (omega arith)
  write (x ∷ xs) (y ∷ ys) zero e h = refl
  write (x ∷ xs) (y ∷ ys) (suc i) e h =
      ap (λ (t : List ℕ). f x y ∷ t) (write xs ys i (omega arith) (omega arith))

  -- one more element
  pub joined_more : (xs ys zs : List ℕ) (i : ℕ) → length xs ≤ length ys → i < length xs
      → zs ≡ joined_to f xs ys i
      → set zs i (f (get_or zs i 0) (get_or ys i 0)) ≡ joined_to f xs ys (i + 1)
  joined_more xs ys zs i e h at = rw (at, read xs ys i e h, add-one) (write xs ys i e h)

  -- all elements
  pub joined_all : (xs ys : List ℕ) (i : ℕ) → length xs ≤ length ys → length xs ≤ i
      → joined_to f xs ys i ≡ zip2 f xs ys
  joined_all [] ys zero e h = refl
  joined_all [] ys (suc i) e h = refl
  joined_all (x ∷ xs) [] i e h = absurd (omega arith)
  joined_all (x ∷ xs) (y ∷ ys) zero e h = absurd (omega arith)
  joined_all (x ∷ xs) (y ∷ ys) (suc i) e h =
      ap (λ (t : List ℕ). f x y ∷ t) (joined_all xs ys i (omega arith) (omega arith))

  append : (ps bs cs ds : List ℕ) → length ps ≡ length cs
      → zip2 f (ps ++ bs) (cs ++ ds) ≡ zip2 f ps cs ++ zip2 f bs ds
  append [] bs [] ds e = refl
  append [] bs (c ∷ cs) ds e = absurd (omega arith)
  append (a ∷ ps) bs [] ds e = absurd (omega arith)
  append (a ∷ ps) bs (c ∷ cs) ds e = ap (λ (t : List ℕ). f a c ∷ t) (append ps bs cs ds (omega arith))

  -- k more elements, written as one part
  pub joined_part : (xs ys zs new : List ℕ) (i k : ℕ) → length xs ≤ length ys → i + k ≤ length xs
      → zs ≡ joined_to f xs ys i → new ≡ zip2 f (take k (drop i zs)) (take k (drop i ys))
      → put_mid i k zs new ≡ joined_to f xs ys (i + k)
  joined_part xs ys zs new i k e le at en =
      let same : length (take i xs) ≡ length (take i ys) =
      length-take-le i xs (omega arith) ∙ sym (length-take-le i ys (omega arith)) in
      let front : length (zip2 f (take i xs) (take i ys)) ≡ i =
      length-zip2 f (take i xs) (take i ys) same ∙ length-take-le i xs (omega arith) in
      let old : take i zs ≡ zip2 f (take i xs) (take i ys) = ap (take i) at ∙ take_at _ (drop i xs) i front in
      let rest : drop i zs ≡ drop i xs = ap (drop i) at ∙ drop_at _ (drop i xs) i front in
      let joined : zip2 f (take (i + k) xs) (take (i + k) ys)
      ≡ zip2 f (take i xs) (take i ys) ++ zip2 f (take k (drop i xs)) (take k (drop i ys)) =
      rw (take-add i k xs, take-add i k ys)
      (append (take i xs) (take k (drop i xs)) (take i ys) (take k (drop i ys)) same) in
      let put : put_mid i k zs new ≡ zip2 f (take i xs) (take i ys)
      ++ (zip2 f (take k (drop i xs)) (take k (drop i ys)) ++ drop k (drop i xs)) =
      rw (old, en, rest) refl in
      put
      ∙ sym (append_assoc (zip2 f (take i xs) (take i ys)) (zip2 f (take k (drop i xs)) (take k (drop i ys))) (drop k (drop i xs)))
      ∙ rw (drop-drop k i xs, joined) refl

  length-zip2_le : (xs ys : List ℕ) → length ys ≤ length xs → length (zip2 f xs ys) ≡ length ys
  length-zip2_le [] [] e = refl
  length-zip2_le [] (y ∷ ys) e = absurd (omega arith)
  length-zip2_le (x ∷ xs) [] e = refl
  length-zip2_le (x ∷ xs) (y ∷ ys) e = ap suc (length-zip2_le xs ys (omega arith))

  -- the front of xs joined with ys, and then what is behind it with bs
  front_and_rest : (xs ys bs : List ℕ) (i : ℕ) → length ys ≡ i → i ≤ length xs
      → zip2 f xs (ys ++ bs) ≡ zip2 f xs ys ++ zip2 f (drop i xs) bs
  front_and_rest [] [] bs zero e le = refl
  front_and_rest (x ∷ xs) [] bs zero e le = refl
  front_and_rest xs [] bs (suc i) e le = absurd (omega arith)
  front_and_rest xs (y ∷ ys) bs zero e le = absurd (omega arith)
  front_and_rest [] (y ∷ ys) bs (suc i) e le = absurd (omega arith)
  front_and_rest (x ∷ xs) (y ∷ ys) bs (suc i) e le =
      ap (λ (t : List ℕ). f x y ∷ t) (front_and_rest xs ys bs i (omega arith) (omega arith))

  cut : (xs bs : List ℕ) (k : ℕ) → length bs ≤ k → zip2 f (take k xs) bs ≡ zip2 f xs bs
  cut [] bs zero e = refl
  cut [] bs (suc k) e = refl
  cut (x ∷ xs) [] zero e = refl
  cut (x ∷ xs) (b ∷ bs) zero e = absurd (omega arith)
  cut (x ∷ xs) [] (suc k) e = refl
  cut (x ∷ xs) (b ∷ bs) (suc k) e = ap (λ (t : List ℕ). f x b ∷ t) (cut xs bs k (omega arith))

  -- a block bs of n elements joined with the k elements of xs that are left for it
  pub joined_block : (xs ys bs zs new : List ℕ) (i k n : ℕ) → length ys ≡ i → i ≤ length xs
      → length bs ≡ n → take k (drop i xs) ≡ take n (drop i xs) → drop (i + k) xs ≡ drop (i + n) xs
      → zs ≡ zip2 f xs ys ++ drop i xs → new ≡ zip2 f (take k (drop i zs)) bs
      → put_mid i k zs new ≡ zip2 f xs (ys ++ bs) ++ drop (i + n) xs
  joined_block xs ys bs zs new i k n ly le lb same rest at en =
      let front : length (zip2 f xs ys) ≡ i = length-zip2_le xs ys (omega arith) ∙ ly in
      let old : take i zs ≡ zip2 f xs ys = ap (take i) at ∙ take_at _ (drop i xs) i front in
      let back : drop i zs ≡ drop i xs = ap (drop i) at ∙ drop_at _ (drop i xs) i front in
      let new_is : new ≡ zip2 f (drop i xs) bs = en ∙ rw (back, same) (cut (drop i xs) bs n (omega arith)) in
      let after : drop k (drop i zs) ≡ drop (i + n) xs = ap (drop k) back ∙ drop-drop k i xs ∙ rest in
      let put : put_mid i k zs new ≡ zip2 f xs ys ++ (zip2 f (drop i xs) bs ++ drop (i + n) xs) =
      rw (old, new_is, after) refl in
      put ∙ sym (append_assoc (zip2 f xs ys) (zip2 f (drop i xs) bs) (drop (i + n) xs))
      ∙ ap (λ (t : List ℕ). t ++ drop (i + n) xs) (sym (front_and_rest xs ys bs i ly le))
