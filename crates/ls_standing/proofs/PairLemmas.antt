-- Lists in which something holds of each element with each one behind it.
use Rattle.std.proofs.Common.{◌≡◌, ◌⊎◌, inl, inr, List, [], ◌∷◌, ◌++◌, sym, subst, ◌∙◌}
use Rattle.std.specs.Prelude.{map}
use Rattle.std.specs.List.{AllByRecursion, flat_map, Contains}
use Rattle.std.proofs.lemmas.List.Concat.{flat_map-cons}
use Rattle.std.proofs.lemmas.List.Elements.{All-from_recursion, Contains-append_cases}
use Rattle.ls_record.specs.Rows.{Pairs}
use Rattle.ls_standing.proofs.ContainsLemmas.{none_in, first_or_behind, at_first, behind_first, of_map, of_flat}

pub each_in : {X : Type 0} (Q : X → Type 0) (xs : List X) (x : X) → AllByRecursion Q xs → Contains xs x → Q x
each_in Q xs x all (k, within, is) = subst Q is (All-from_recursion Q xs all k x within)

pub all_from : {X : Type 0} (Q : X → Type 0) (xs : List X) → ((x : X) → Contains xs x → Q x) → AllByRecursion Q xs
all_from Q [] each = tt
all_from Q (x ∷ xs) each = (each x (at_first x xs), all_from Q xs (λ y h. each y (behind_first x xs y h)))

module _ {Y : Type 0} (P : Y → Y → Type 0) where
  -- P holds of any two of these
  pub pairs_of_all : (xs : List Y) → ((x y : Y) → Contains xs x → Contains xs y → P x y) → Pairs P xs
  pairs_of_all [] each = tt
  pairs_of_all (x ∷ xs) each = (
    all_from (P x) xs (λ y h. each x y (at_first x xs) (behind_first x xs y h)),
    pairs_of_all xs (λ y z h k. each y z (behind_first x xs y h) (behind_first x xs z k)),
  )

  pub pairs_append : (xs ys : List Y) → Pairs P xs → Pairs P ys → ((x y : Y) → Contains xs x → Contains ys y → P x y) → Pairs P (xs ++ ys)
  pairs_append [] ys h k cross = k
  pairs_append (x ∷ xs) ys h k cross = (
    all_from (P x) (xs ++ ys) (λ z m. by z (Contains-append_cases xs ys z m)),
    pairs_append xs ys h.1 k (λ y z m n. cross y z (behind_first x xs y m) n),
  )
    where
      by : (z : Y) → Contains xs z ⊎ Contains ys z → P x z
      by z (inl m) = each_in (P x) xs z h.0 m
      by z (inr m) = cross x z (at_first x xs) m

  pub pairs_map : {X : Type 0} (f : X → Y) (xs : List X) → Pairs (λ x z. P (f x) (f z)) xs → Pairs P (map f xs)
  pairs_map f [] h = tt
  pairs_map {X = X} f (x ∷ xs) h = (all_from (P (f x)) (map f xs) (λ y m. by y (of_map f xs y m)), pairs_map f xs h.1)
    where
      by : (y : Y) → (z : X) × Contains xs z × (f z ≡ y) → P (f x) y
      by y (z, within, is) = subst (P (f x)) is (each_in (λ v. P (f x) (f v)) xs z h.0 within)

  pub pairs_flat : {X : Type 0} (f : X → List Y) (Q : X → X → Type 0) (xs : List X) → Pairs Q xs
      → ((x : X) → Contains xs x → Pairs P (f x))
      → ((x z : X) → Contains xs x → Contains xs z → Q x z → (a b : Y) → Contains (f x) a → Contains (f z) b → P a b)
      → Pairs P (flat_map f xs)
  pairs_flat f Q [] h each cross = tt
  pairs_flat {X = X} f Q (x ∷ xs) h each cross =
      subst (Pairs P) (sym (flat_map-cons f x xs))
      (pairs_append (f x) (flat_map f xs) (each x (at_first x xs))
      (pairs_flat f Q xs h.1 (λ y m. each y (behind_first x xs y m)) (λ y z m n. cross y z (behind_first x xs y m) (behind_first x xs z n)))
      (λ a b m n. by a b m (of_flat f xs b n)))
    where
      by : (a b : Y) → Contains (f x) a → (z : X) × Contains xs z × Contains (f z) b → P a b
      by a b m (z, within, own) = cross x z (at_first x xs) (behind_first x xs z within) (each_in (Q x) xs z h.0 within) a b m own

pub pairs_weaker : {Y : Type 0} (P Q : Y → Y → Type 0) (xs : List Y) → ((x y : Y) → Contains xs x → Contains xs y → P x y → Q x y) → Pairs P xs → Pairs Q xs
pairs_weaker P Q [] each h = tt
pairs_weaker P Q (x ∷ xs) each h = (
  all_from (Q x) xs (λ y m. each x y (at_first x xs) (behind_first x xs y m) (each_in (P x) xs y h.0 m)),
  pairs_weaker P Q xs (λ y z m n. each y z (behind_first x xs y m) (behind_first x xs z n)) h.1,
)

-- two elements are one, or one of them stands before the other
pub pair_cases : {Y : Type 0} (P : Y → Y → Type 0) (xs : List Y) → Pairs P xs → (x y : Y) → Contains xs x → Contains xs y → (x ≡ y) ⊎ (P x y ⊎ P y x)
pair_cases P [] h x y m n = absurd (none_in x m)
pair_cases {Y = Y} P (z ∷ xs) h x y m n = by (first_or_behind z xs x m) (first_or_behind z xs y n) (pair_cases P xs h.1 x y)
  where
    by : (z ≡ x) ⊎ Contains xs x → (z ≡ y) ⊎ Contains xs y → (Contains xs x → Contains xs y → (x ≡ y) ⊎ (P x y ⊎ P y x)) → (x ≡ y) ⊎ (P x y ⊎ P y x)
    by (inl e) (inl d) rest = inl (sym e ∙ d)
    by (inl e) (inr k) rest = inr (inl (subst (λ (v : Y). P v y) e (each_in (P z) xs y h.0 k)))
    by (inr k) (inl d) rest = inr (inr (subst (λ (v : Y). P v x) d (each_in (P z) xs x h.0 k)))
    by (inr k) (inr l) rest = rest k l
