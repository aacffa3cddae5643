-- Two lists, element by element.
use Rattle.std.proofs.Common.{◌≡◌, ◌≤◌, ◌-◌, List, [], ◌∷◌, ℕ, length, take, drop, get_or, refl, sym, subst, arith}
use Rattle.std.specs.Prelude.{◌↔◌, false, IsTrue, map}
use Rattle.std.specs.List.{AllZip}
use Rattle.std.proofs.lemmas.List.{take_all}

false_true : IsTrue false → ⊥
false_true h = cc

-- what stands behind the first element, as a pattern gives it
abbrev pub behind : {A : Type 0} → List A → List A
behind xs = take (length xs - 1) (drop 1 xs)

pub behind_first : {A : Type 0} (x : A) (xs : List A) → behind (x ∷ xs) ≡ xs
behind_first x xs = take_all (length (x ∷ xs) - 1) xs (omega arith)

pub zip_cons : {A B : Type 0} (R : A → B → Type 0) (xs : List A) (ys : List B) (x : A) (y : B)
    → 1 ≤ length xs → 1 ≤ length ys → x ≡ get_or xs 0 x → y ≡ get_or ys 0 y
    → AllZip R xs ys ↔ (R x y × AllZip R (behind xs) (behind ys))
zip_cons R [] ys x y some other at by = absurd (omega (arith, some))
zip_cons R (a ∷ xs) [] x y some other at by = absurd (omega (arith, other))
zip_cons {A} {B} R (a ∷ xs) (b ∷ ys) x y some other at by =
    let there : AllZip R xs ys → AllZip R (behind (a ∷ xs)) (behind (b ∷ ys)) = λ all.
    subst (λ (l : List A). AllZip R l (behind (b ∷ ys))) (sym (behind_first a xs)) (subst (AllZip R xs) (sym (behind_first b ys)) all) in
    let back : AllZip R (behind (a ∷ xs)) (behind (b ∷ ys)) → AllZip R xs ys = λ all.
    subst (AllZip R xs) (behind_first b ys) (subst (λ (l : List A). AllZip R l (behind (b ∷ ys))) (behind_first a xs) all) in (
      λ all. (subst (λ (v : A). R v y) (sym at) (subst (R a) (sym by) all.0), there all.1),
      λ both. (subst (R a) by (subst (λ (v : A). R v y) at both.0), back both.1),
    )

-- the first two are so: it depends on the others
pub zip_next : {A B : Type 0} (R : A → B → Type 0) (xs : List A) (ys : List B) (x : A) (y : B)
    → 1 ≤ length xs → 1 ≤ length ys → x ≡ get_or xs 0 x → y ≡ get_or ys 0 y → R x y
    → AllZip R (behind xs) (behind ys) ↔ AllZip R xs ys
zip_next R xs ys x y some other at by holds =
    let both = zip_cons R xs ys x y some other at by in
    (λ rest. both.1 (holds, rest), λ all. (both.0 all).1)

-- the first two aren't so
pub zip_stop : {A B : Type 0} (R : A → B → Type 0) (xs : List A) (ys : List B) (x : A) (y : B)
    → 1 ≤ length xs → 1 ≤ length ys → x ≡ get_or xs 0 x → y ≡ get_or ys 0 y → (R x y → IsTrue false)
    → IsTrue false ↔ AllZip R xs ys
zip_stop R xs ys x y some other at by fails =
    let both = zip_cons R xs ys x y some other at by in
    (λ no_way. absurd (false_true no_way), λ all. fails (both.0 all).0)

pub zip_mapped : {A B C : Type 0} (R : C → B → Type 0) (f : A → C) (xs : List A) (ys : List B)
    → AllZip (λ x y. R (f x) y) xs ys ↔ AllZip R (map f xs) ys
zip_mapped R f [] [] = (λ h. h, λ h. h)
zip_mapped R f [] (y ∷ ys) = (λ h. h, λ h. h)
zip_mapped R f (x ∷ xs) [] = (λ h. h, λ h. h)
zip_mapped R f (x ∷ xs) (y ∷ ys) =
    let rest = zip_mapped R f xs ys in
    (λ h. (h.0, rest.0 h.1), λ h. (h.0, rest.1 h.1))

-- a list's first number, whatever stands for one that isn't there
pub first_at : (xs : List ℕ) → 1 ≤ length xs → get_or xs 0 0 ≡ get_or xs 0 (get_or xs 0 0)
first_at [] some = absurd (omega (arith, some))
first_at (x ∷ xs) some = refl
