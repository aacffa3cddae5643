-- What lists contain that are made of others.
use Rattle.std.proofs.Common.{◌≡◌, ◌⊎◌, inl, inr, ◌||◌, zero, suc, Bool, true, false, List, [], ◌∷◌, ◌++◌, refl, sym, ap, subst, ◌∙◌, arith}
use Rattle.std.specs.Prelude.{map}
use Rattle.std.specs.List.{list_any, flat_map, Contains}
use Rattle.std.proofs.lemmas.List.Concat.{flat_map-cons}
use Rattle.std.proofs.lemmas.List.Elements.{Contains-append_left, Contains-append_right, Contains-append_cases}

module _ {X : Type 0} where
  pub none_in : (x : X) → ¬ Contains [] x
  none_in x (k, within, is) = omega arith

  pub at_first : (x : X) (xs : List X) → Contains (x ∷ xs) x
  at_first x xs = (0, omega arith, refl)

  pub behind_first : (y : X) (xs : List X) (x : X) → Contains xs x → Contains (y ∷ xs) x
  behind_first y xs x (k, within, is) = (suc k, omega arith, is)

  pub first_or_behind : (y : X) (xs : List X) (x : X) → Contains (y ∷ xs) x → (y ≡ x) ⊎ Contains xs x
  first_or_behind y xs x (zero, within, is) = inl is
  first_or_behind y xs x (suc k, within, is) = inr (k, omega arith, is)

module _ {X Y : Type 0} where
  pub in_map : (f : X → Y) (xs : List X) (x : X) → Contains xs x → Contains (map f xs) (f x)
  in_map f [] x h = absurd (none_in x h)
  in_map f (y ∷ xs) x h = by (first_or_behind y xs x h) (in_map f xs x)
    where
      by : (y ≡ x) ⊎ Contains xs x → (Contains xs x → Contains (map f xs) (f x)) → Contains (f y ∷ map f xs) (f x)
      by (inl e) rest = subst (λ (z : X). Contains (f y ∷ map f xs) (f z)) e (at_first (f y) (map f xs))
      by (inr k) rest = behind_first (f y) (map f xs) (f x) (rest k)

  pub of_map : (f : X → Y) (xs : List X) (y : Y) → Contains (map f xs) y → (x : X) × Contains xs x × (f x ≡ y)
  of_map f [] y h = absurd (none_in y h)
  of_map f (x ∷ xs) y h = by (first_or_behind (f x) (map f xs) y h) (of_map f xs y)
    where
      by : (f x ≡ y) ⊎ Contains (map f xs) y → (Contains (map f xs) y → (z : X) × Contains xs z × (f z ≡ y)) → (z : X) × Contains (x ∷ xs) z × (f z ≡ y)
      by (inl e) rest = (x, at_first x xs, e)
      by (inr k) rest = let found = rest k in (found.0, behind_first x xs found.0 found.1, found.2)

  pub in_flat : (f : X → List Y) (xs : List X) (x : X) (y : Y) → Contains xs x → Contains (f x) y → Contains (flat_map f xs) y
  in_flat f [] x y h k = absurd (none_in x h)
  in_flat f (z ∷ xs) x y h k = subst (λ (l : List Y). Contains l y) (sym (flat_map-cons f z xs)) (by (first_or_behind z xs x h) (λ m. in_flat f xs x y m k))
    where
      by : (z ≡ x) ⊎ Contains xs x → (Contains xs x → Contains (flat_map f xs) y) → Contains (f z ++ flat_map f xs) y
      by (inl e) rest = Contains-append_left (f z) (flat_map f xs) y (subst (λ (v : X). Contains (f v) y) (sym e) k)
      by (inr m) rest = Contains-append_right (f z) (flat_map f xs) y (rest m)

  pub of_flat : (f : X → List Y) (xs : List X) (y : Y) → Contains (flat_map f xs) y → (x : X) × Contains xs x × Contains (f x) y
  of_flat f [] y h = absurd (none_in y h)
  of_flat f (x ∷ xs) y h = by (Contains-append_cases (f x) (flat_map f xs) y (subst (λ (l : List Y). Contains l y) (flat_map-cons f x xs) h)) (of_flat f xs y)
    where
      by : Contains (f x) y ⊎ Contains (flat_map f xs) y → (Contains (flat_map f xs) y → (z : X) × Contains xs z × Contains (f z) y) → (z : X) × Contains (x ∷ xs) z × Contains (f z) y
      by (inl k) rest = (x, at_first x xs, k)
      by (inr k) rest = let found = rest k in (found.0, behind_first x xs found.0 found.1, found.2)

-- a test that an element passes
pub any_contained : {X : Type 0} (q : X → Bool) (xs : List X) (x : X) → Contains xs x → q x ≡ true → list_any q xs ≡ true
any_contained q [] x h passes = absurd (none_in x h)
any_contained {X = X} q (y ∷ xs) x h passes = by (first_or_behind y xs x h) (λ k. any_contained q xs x k passes)
  where
    or_right : (a b : Bool) → b ≡ true → (a || b) ≡ true
    or_right true b e = refl
    or_right false b e = e

    by : (y ≡ x) ⊎ Contains xs x → (Contains xs x → list_any q xs ≡ true) → (q y || list_any q xs) ≡ true
    by (inl e) rest = ap (λ (b : Bool). b || list_any q xs) (ap q e ∙ passes)
    by (inr k) rest = or_right (q y) (list_any q xs) (rest k)
