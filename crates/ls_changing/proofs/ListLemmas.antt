-- A list without one of its elements.
use Rattle.std.proofs.Common.{◌≡◌, ◌⊎◌, inl, inr, ⊎_elim, List, [], ◌∷◌, ◌++◌, sym, subst}
use Rattle.std.specs.List.{Contains}
use Rattle.std.proofs.lemmas.List.Elements.{Contains-append_left, Contains-append_right, Contains-append_cases}
use Rattle.ls_record.specs.Rows.{Pairs}
use Rattle.ls_standing.proofs.ContainsLemmas.{none_in, at_first, behind_first, first_or_behind}
use Rattle.ls_standing.proofs.PairLemmas.{each_in, all_from}

module _ {X : Type 0} where
  pub one_in : (x z : X) → Contains (x ∷ []) z → z ≡ x
  one_in x z has = ⊎_elim (λ (e : x ≡ z). sym e) (λ (k : Contains [] z). absurd (none_in z k)) (first_or_behind x [] z has)

  module _ (q : X) where
    pub others_in : (front back : List X) (z : X) → Contains (front ++ back) z → Contains (front ++ q ∷ back) z
    others_in front back z has = by (Contains-append_cases front back z has)
      where
        by : Contains front z ⊎ Contains back z → Contains (front ++ q ∷ back) z
        by (inl k) = Contains-append_left front (q ∷ back) z k
        by (inr k) = Contains-append_right front (q ∷ back) z (behind_first q back z k)

    pub itself_in : (front back : List X) → Contains (front ++ q ∷ back) q
    itself_in front back = Contains-append_right front (q ∷ back) q (at_first q back)

    pub of_others : (front back : List X) (z : X) → Contains (front ++ q ∷ back) z → (z ≡ q) ⊎ Contains (front ++ back) z
    of_others front back z has = by (Contains-append_cases front (q ∷ back) z has)
      where
        late : (q ≡ z) ⊎ Contains back z → (z ≡ q) ⊎ Contains (front ++ back) z
        late (inl e) = inl (sym e)
        late (inr k) = inr (Contains-append_right front back z k)

        by : Contains front z ⊎ Contains (q ∷ back) z → (z ≡ q) ⊎ Contains (front ++ back) z
        by (inl k) = inr (Contains-append_left front back z k)
        by (inr k) = late (first_or_behind q back z k)

    module _ (P : X → X → Type 0) where
      pub pairs_apart : (front back : List X) → Pairs P (front ++ q ∷ back) → (z : X) → Contains (front ++ back) z → P z q ⊎ P q z
      pairs_apart [] back all z has = inr (each_in (P q) back z all.0 has)
      pairs_apart (f ∷ front) back all z has = by (first_or_behind f (front ++ back) z has) (pairs_apart front back all.1 z)
        where
          by : (f ≡ z) ⊎ Contains (front ++ back) z → (Contains (front ++ back) z → P z q ⊎ P q z) → P z q ⊎ P q z
          by (inl e) later = inl (subst (λ (y : X). P y q) e (each_in (P f) (front ++ q ∷ back) q all.0 (itself_in front back)))
          by (inr k) later = later k

      pub pairs_without : (front back : List X) → Pairs P (front ++ q ∷ back) → Pairs P (front ++ back)
      pairs_without [] back all = all.1
      pairs_without (f ∷ front) back all = (
        all_from (P f) (front ++ back) (λ z has. each_in (P f) (front ++ q ∷ back) z all.0 (others_in front back z has)),
        pairs_without front back all.1,
      )
