-- Rows that are spelled one after another, behind what stands before them.
use Rattle.std.proofs.Common.{◌≡◌, ◌+◌, ◌≤◌, ℕ, zero, suc, List, [], ◌∷◌, ◌++◌, length, take, Some, refl, sym, ◌∙◌, ap, subst, arith}
use Rattle.std.specs.Prelude.{slice_get}
use Rattle.std.specs.List.{AllByRecursion, flat_map}
use Rattle.std.proofs.lemmas.List.{append-nil, append_assoc, take_all}
use Rattle.std.proofs.lemmas.List.Concat.{flat_map-append}

later : (n : ℕ) → suc n ≡ n + 1
later n = omega arith

module _ {X : Type 0} (text : X → List ℕ) where
  take_pushed : (rows : List X) (at : ℕ) (row : X) → slice_get rows at ≡ Some row → take (suc at) rows ≡ take at rows ++ row ∷ []
  take_pushed [] at row is = absurd (cc)
  take_pushed (r ∷ rows) zero row is = let same : r ≡ row = cc in ap (λ (r : X). r ∷ []) same
  take_pushed (r ∷ rows) (suc at) row is = ap (λ (rest : List X). r ∷ rest) (take_pushed rows at row is)

  pub joined_more : (rows : List X) (at : ℕ) (row : X) (front out : List ℕ) → slice_get rows at ≡ Some row → out ≡ front ++ flat_map text (take at rows) → out ++ text row ≡ front ++ flat_map text (take (at + 1) rows)
  joined_more rows at row front out is so_far =
      ap (λ (o : List ℕ). o ++ text row) so_far ∙ append_assoc front (flat_map text (take at rows)) (text row)
      ∙ ap (λ (t : List ℕ). front ++ (flat_map text (take at rows) ++ t)) (sym (append-nil (text row)))
      ∙ ap (λ (t : List ℕ). front ++ t) (sym (flat_map-append text (take at rows) (row ∷ [])))
      ∙ ap (λ (t : List X). front ++ flat_map text t) (sym (take_pushed rows at row is) ∙ ap (λ (n : ℕ). take n rows) (later at))

  pub joined_all : (rows : List X) (at : ℕ) (front out : List ℕ) → length rows ≤ at → out ≡ front ++ flat_map text (take at rows) → out ≡ front ++ flat_map text rows
  joined_all rows at front out all so_far = so_far ∙ ap (λ (t : List X). front ++ flat_map text t) (take_all at rows all)

-- one row more is as it should be
module _ {X : Type 0} (Good : X → Type 0) where
  good_next : (rows : List X) (at : ℕ) (row : X) → slice_get rows at ≡ Some row → Good row → AllByRecursion Good (take at rows) → AllByRecursion Good (take (suc at) rows)
  good_next [] at row is good all = absurd (cc)
  good_next (r ∷ rows) zero row is good all = let same : r ≡ row = cc in (subst (λ (q : X). Good q) (sym same) good, tt)
  good_next (r ∷ rows) (suc at) row is good all = (all.0, good_next rows at row is good all.1)

  pub all_more : (rows : List X) (at : ℕ) (row : X) → slice_get rows at ≡ Some row → Good row → AllByRecursion Good (take at rows) → AllByRecursion Good (take (at + 1) rows)
  all_more rows at row is good all = subst (λ (n : ℕ). AllByRecursion Good (take n rows)) (later at) (good_next rows at row is good all)

  pub all_good : (rows : List X) (at : ℕ) → length rows ≤ at → AllByRecursion Good (take at rows) → AllByRecursion Good rows
  all_good rows at whole all = subst (λ (l : List X). AllByRecursion Good l) (take_all at rows whole) all
