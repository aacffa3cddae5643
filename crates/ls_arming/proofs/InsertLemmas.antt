-- A number put in at its place is the number among the others.
use Rattle.std.proofs.Common.{◌≡◌, ◌≢◌, ◌<◌, ◌+◌, ℕ, suc, Bool, true, false, cond, eqb, ltb, List, [], ◌∷◌, ◌++◌, length, get_or, take, drop, refl, sym, ◌∙◌, ap, subst, arith}
use Rattle.std.proofs.lemmas.Bool.Decides.{nat_tests}
use Rattle.std.specs.List.{insert, prefix_len}
use Rattle.ls_arming.specs.Numbers.{with_number}

-- behind the front
pub inserted_more : {X : Type 0} (x y : X) (xs : List X) (k : ℕ) → insert (x ∷ xs) (1 + k) y ≡ x ∷ insert xs k y
inserted_more x y xs k =
    let next : 1 + k ≡ suc k = omega arith in
    subst (λ j. take j (x ∷ xs) ++ y ∷ drop j (x ∷ xs) ≡ x ∷ (take k xs ++ y ∷ drop k xs)) (sym next) refl

get_more : (x d : ℕ) (xs : List ℕ) (k : ℕ) → get_or (x ∷ xs) (1 + k) d ≡ get_or xs k d
get_more x d xs k =
    let next : 1 + k ≡ suc k = omega arith in
    subst (λ j. get_or (x ∷ xs) j d ≡ get_or xs k d) (sym next) refl

abbrev pub smaller : List ℕ → ℕ → ℕ
smaller ns n = prefix_len (λ m. ltb m n) ns

-- the number at its place isn't this one
abbrev pub IsMissing : List ℕ → ℕ → ℕ → Type 0
IsMissing ns k n = k < length ns → get_or ns k 0 ≢ n

insert_cases : (m n : ℕ) (ns : List ℕ) (b e : Bool) → eqb m n ≡ e → IsMissing (m ∷ ns) (cond b (1 + smaller ns n) 0) n
    → (IsMissing ns (smaller ns n) n → insert ns (smaller ns n) n ≡ with_number ns n)
    → insert (m ∷ ns) (cond b (1 + smaller ns n) 0) n ≡ cond b (m ∷ with_number ns n) (cond e (m ∷ ns) (n ∷ m ∷ ns))
insert_cases m n ns true e test missing rest =
    inserted_more m n ns (smaller ns n)
    ∙ ap (λ (xs : List ℕ). m ∷ xs) (rest (λ here is. missing (omega (arith, here)) (get_more m 0 ns (smaller ns n) ∙ is)))
insert_cases m n ns false true test missing rest = absurd (missing (omega arith) (grind (arith, nat_tests, test)))
insert_cases m n ns false false test missing rest = refl

-- put in at its place, where it isn't there
pub number_inserted : (ns : List ℕ) (n k : ℕ) → k ≡ smaller ns n → IsMissing ns k n → insert ns k n ≡ with_number ns n
number_inserted ns n k is missing = subst (λ j. insert ns j n ≡ with_number ns n) (sym is) (at_place ns n (subst (λ j. IsMissing ns j n) is missing))
  where
    at_place : (ns : List ℕ) (n : ℕ) → IsMissing ns (smaller ns n) n → insert ns (smaller ns n) n ≡ with_number ns n
    at_place [] n missing = refl
    at_place (m ∷ ns) n missing = insert_cases m n ns (ltb m n) (eqb m n) refl missing (at_place ns n)

there_cases : (m n : ℕ) (ns : List ℕ) (b e : Bool) → eqb m n ≡ e → cond b (1 + smaller ns n) 0 < length (m ∷ ns) → get_or (m ∷ ns) (cond b (1 + smaller ns n) 0) 0 ≡ n
    → (smaller ns n < length ns → get_or ns (smaller ns n) 0 ≡ n → ns ≡ with_number ns n)
    → m ∷ ns ≡ cond b (m ∷ with_number ns n) (cond e (m ∷ ns) (n ∷ m ∷ ns))
there_cases m n ns true e test here is rest =
    ap (λ (xs : List ℕ). m ∷ xs) (rest (omega (arith, here)) (sym (get_more m 0 ns (smaller ns n)) ∙ is))
there_cases m n ns false true test here is rest = refl
there_cases m n ns false false test here is rest = absurd (grind (arith, nat_tests, test, is))

-- where it is at its place, all stay
pub number_there : (ns : List ℕ) (n k : ℕ) → k ≡ smaller ns n → k < length ns → get_or ns k 0 ≡ n → ns ≡ with_number ns n
number_there ns n k is here there = at_place ns n (subst (λ j. j < length ns) is here) (subst (λ j. get_or ns j 0 ≡ n) is there)
  where
    at_place : (ns : List ℕ) (n : ℕ) → smaller ns n < length ns → get_or ns (smaller ns n) 0 ≡ n → ns ≡ with_number ns n
    at_place [] n here is = absurd (omega (arith, here))
    at_place (m ∷ ns) n here is = there_cases m n ns (ltb m n) (eqb m n) refl here is (at_place ns n)
