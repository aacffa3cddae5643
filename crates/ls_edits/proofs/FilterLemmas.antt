-- What a filtered list contains.
use Rattle.std.proofs.Common.{◌≡◌, ◌⊎◌, inl, inr, ⊎_elim, Bool, true, false, cond, List, [], ◌∷◌, refl, sym, ◌∙◌, ap, subst}
use Rattle.std.specs.Prelude.{filter}
use Rattle.std.specs.List.{Contains}
use Rattle.ls_standing.proofs.ContainsLemmas.{none_in, at_first, behind_first, first_or_behind}

module _ {X : Type 0} (p : X → Bool) where
  pub filtered_in : (xs : List X) (x : X) → Contains (filter p xs) x → Contains xs x × (p x ≡ true)
  filtered_in [] x has = absurd (none_in x has)
  filtered_in (y ∷ xs) x has = by (p y) refl has (filtered_in xs x)
    where
      by : (b : Bool) → p y ≡ b → Contains (cond b (y ∷ filter p xs) (filter p xs)) x → (Contains (filter p xs) x → Contains xs x × (p x ≡ true)) → Contains (y ∷ xs) x × (p x ≡ true)
      by true is has later = ⊎_elim
          (λ (e : y ≡ x). (subst (λ (z : X). Contains (y ∷ xs) z) e (at_first y xs), subst (λ (z : X). p z ≡ true) e is))
          (λ (rest : Contains (filter p xs) x). let l = later rest in (behind_first y xs x l.0, l.1))
          (first_or_behind y (filter p xs) x has)
      by false is has later = let l = later has in (behind_first y xs x l.0, l.1)

  pub in_filter : (xs : List X) (x : X) → Contains xs x → p x ≡ true → Contains (filter p xs) x
  in_filter [] x has passes = absurd (none_in x has)
  in_filter (y ∷ xs) x has passes = by (p y) refl (first_or_behind y xs x has) (λ k. in_filter xs x k passes)
    where
      by : (b : Bool) → p y ≡ b → (y ≡ x) ⊎ Contains xs x → (Contains xs x → Contains (filter p xs) x) → Contains (cond b (y ∷ filter p xs) (filter p xs)) x
      by true is (inl e) later = subst (λ (z : X). Contains (y ∷ filter p xs) z) e (at_first y (filter p xs))
      by true is (inr k) later = behind_first y (filter p xs) x (later k)
      by false is (inl e) later = let bad : false ≡ true = sym is ∙ (ap p e ∙ passes) in absurd (cc)
      by false is (inr k) later = later k
