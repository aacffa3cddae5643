-- Tests of lists, element by element.
use Rattle.std.proofs.Common.{◌≡◌, ◌≢◌, ℕ, Bool, true, false, List, [], ◌∷◌, refl}
use Rattle.std.specs.List.{AllByRecursion, list_any, list_all}
use Rattle.std.proofs.Math.Dec.{eqb}
use Rattle.std.proofs.lemmas.Bool.{and_parts, and_from, or_parts, or_from, ne_eqb, eqb-false}
use Rattle.ls_record.specs.Rows.{has}

pub none_pass : {X : Type 0} (test : X → Bool) (xs : List X) → list_any test xs ≡ false → AllByRecursion (λ x. test x ≡ false) xs
none_pass test [] h = tt
none_pass test (x ∷ xs) h = let parts = or_parts (test x) (list_any test xs) h in (parts.0, none_pass test xs parts.1)

pub no_pass : {X : Type 0} (test : X → Bool) (xs : List X) → AllByRecursion (λ x. test x ≡ false) xs → list_any test xs ≡ false
no_pass test [] h = refl
no_pass test (x ∷ xs) h = or_from (test x) (list_any test xs) h.0 (no_pass test xs h.1)

pub all_pass : {X : Type 0} (test : X → Bool) (xs : List X) → list_all test xs ≡ true → AllByRecursion (λ x. test x ≡ true) xs
all_pass test [] h = tt
all_pass test (x ∷ xs) h = let parts = and_parts (test x) (list_all test xs) h in (parts.0, all_pass test xs parts.1)

pub each_pass : {X : Type 0} (test : X → Bool) (xs : List X) → AllByRecursion (λ x. test x ≡ true) xs → list_all test xs ≡ true
each_pass test [] h = refl
each_pass test (x ∷ xs) h = and_from (test x) (list_all test xs) h.0 (each_pass test xs h.1)

-- ---- facts of each element

pub all_map : {X : Type 0} (P Q : X → Type 0) → ((x : X) → P x → Q x) → (xs : List X) → AllByRecursion P xs → AllByRecursion Q xs
all_map P Q f [] h = tt
all_map P Q f (x ∷ xs) h = (f x h.0, all_map P Q f xs h.1)

pub all_both : {X : Type 0} (P Q R : X → Type 0) → ((x : X) → P x → Q x → R x) → (xs : List X) → AllByRecursion P xs → AllByRecursion Q xs → AllByRecursion R xs
all_both P Q R f [] p q = tt
all_both P Q R f (x ∷ xs) p q = (f x p.0 q.0, all_both P Q R f xs p.1 q.1)

all_of_none : {X Y : Type 0} (P : X → Y → Type 0) (ys : List Y) → AllByRecursion (λ y. AllByRecursion (λ x. P x y) []) ys
all_of_none P [] = tt
all_of_none P (y ∷ ys) = (tt, all_of_none P ys)

heads : {X Y : Type 0} (P : X → Y → Type 0) (x : X) (xs : List X) (ys : List Y) → AllByRecursion (λ y. P x y) ys → AllByRecursion (λ y. AllByRecursion (λ x. P x y) xs) ys
    → AllByRecursion (λ y. AllByRecursion (λ x. P x y) (x ∷ xs)) ys
heads P x xs [] h t = tt
heads P x xs (y ∷ ys) h t = ((h.0, t.0), heads P x xs ys h.1 t.1)

-- each of one list to each of another, from either side
pub all_swap : {X Y : Type 0} (P : X → Y → Type 0) (xs : List X) (ys : List Y) → AllByRecursion (λ x. AllByRecursion (λ y. P x y) ys) xs
    → AllByRecursion (λ y. AllByRecursion (λ x. P x y) xs) ys
all_swap P [] ys h = all_of_none P ys
all_swap P (x ∷ xs) ys h = heads P x xs ys h.0 (all_swap P xs ys h.1)

-- ---- an id among others

pub not_has : (ids : List ℕ) (id : ℕ) → has ids id ≡ false → AllByRecursion (λ i. i ≢ id) ids
not_has ids id h = all_map (λ i. eqb i id ≡ false) (λ i. i ≢ id) (λ i e. eqb-false i id e) ids (none_pass (λ i. eqb i id) ids h)

pub has_not : (ids : List ℕ) (id : ℕ) → AllByRecursion (λ i. i ≢ id) ids → has ids id ≡ false
has_not ids id h = no_pass (λ i. eqb i id) ids (all_map (λ i. i ≢ id) (λ i. eqb i id ≡ false) (λ i n. ne_eqb i id n) ids h)
