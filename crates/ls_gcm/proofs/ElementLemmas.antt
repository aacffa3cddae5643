-- A list whose length is a number, as its elements.
use Rattle.std.proofs.Common.{◌≡◌, ℕ, zero, suc, ◌+◌, List, [], ◌∷◌, length, drop, slice_index, ap, ◌∙◌, arith}
use Rattle.std.proofs.lemmas.List.{drop_all}
use Rattle.std.proofs.Math.Seq.{drop-cons}

-- the n elements from place i on
abbrev pub elements : ℕ → ℕ → List ℕ → List ℕ
elements zero i x = []
elements (suc n) i x = slice_index x i ∷ elements n (suc i) x

rest_is : (n i : ℕ) (x : List ℕ) → length x ≡ i + n → drop i x ≡ elements n i x
rest_is zero i x e = drop_all i x (omega arith)
rest_is (suc n) i x e =
    drop-cons x i 0 (omega arith) ∙ ap (λ (t : List ℕ). slice_index x i ∷ t) (rest_is n (suc i) x (omega arith))

-- a list of n elements
pub as_elements : (n : ℕ) (x : List ℕ) → length x ≡ n → x ≡ elements n 0 x
as_elements n x e = rest_is n 0 x (omega arith)
