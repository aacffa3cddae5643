-- What passes a test among others, and a list by its first.
use Rattle.std.proofs.Common.{◌≡◌, ◌≤◌, ℕ, suc, Bool, true, false, cond, List, [], ◌∷◌, length, take, drop, ◌-◌, refl, sym, ap, subst, ◌∙◌, arith}
use Rattle.std.specs.Prelude.{◌==◌, ◌||◌, slice_index_or}
use Rattle.std.specs.List.{Contains, list_any}
use Rattle.std.proofs.lemmas.Bool.{eqb-true, eq-eqb}
use Rattle.std.proofs.lemmas.List.{take_all}
use Rattle.ls_record.specs.Rows.{has}
use Rattle.ls_standing.proofs.ContainsLemmas.{any_contained, at_first, behind_first}

-- one of them passes it
pub any_found : {X : Type 0} (q : X → Bool) (xs : List X) → list_any q xs ≡ true → (x : X) × Contains xs x × (q x ≡ true)
any_found q [] is = absurd (cc)
any_found {X = X} q (x ∷ xs) is = by (q x) refl is (any_found q xs)
  where
    by : (b : Bool) → q x ≡ b → (b || list_any q xs) ≡ true → (list_any q xs ≡ true → (y : X) × Contains xs y × (q y ≡ true)) → (y : X) × Contains (x ∷ xs) y × (q y ≡ true)
    by true e found later = (x, at_first x xs, e)
    by false e found later = let its = later found in (its.0, behind_first x xs its.0 its.1, its.2)

pub has_one : (ids : List ℕ) (id : ℕ) → Contains ids id → has ids id ≡ true
has_one ids id here = any_contained (λ (i : ℕ). i == id) ids id here (eq-eqb id id refl)

pub one_of : (ids : List ℕ) (id : ℕ) → has ids id ≡ true → Contains ids id
one_of ids id is =
    let its = any_found (λ (i : ℕ). i == id) ids is in
    subst (λ (n : ℕ). Contains ids n) (eqb-true its.0 id its.2) its.1

-- the first one and the others
abbrev pub others : {X : Type 0} → List X → List X
others xs = take (length xs - 1) (drop 1 xs)

pub by_first : {X : Type 0} (xs : List X) (x d : X) → 1 ≤ length xs → x ≡ slice_index_or xs 0 d → xs ≡ x ∷ others xs
by_first [] x d some is = absurd (omega (arith, some))
by_first {X} (y ∷ xs) x d some is = λ i. sym is i ∷ sym (take_all (length (y ∷ xs) - 1) xs (omega arith)) i
