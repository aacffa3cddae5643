-- Parts of a list by a test, and what they keep.
use Rattle.std.proofs.Common.{◌≡◌, ◌⊎◌, ◌≤◌, ◌<◌, ℕ, ◌+◌, ◌||◌, not, Bool, true, false, cond, List, [], ◌∷◌, ◌++◌, length, get_or, take, refl, sym, ap, ◌∙◌, arith, inl, inr}
use Rattle.std.specs.List.{AllByRecursion, filter, list_any}
use Rattle.std.proofs.lemmas.Bool.{or_cases, or_left, or_right, cases_Bool}
use Rattle.std.proofs.lemmas.List.{append_assoc, take_more, take_all}
use Rattle.std.proofs.lemmas.List.Elements.{filter-append}
use Rattle.ls_record.specs.Rows.{Pairs}

-- ---- facts of each, and of each pair

chosen_all : {X : Type 0} (P : X → Type 0) (b : Bool) (x : X) (rest : List X) → (b ≡ true → P x) → AllByRecursion P rest → AllByRecursion P (cond b (x ∷ rest) rest)
chosen_all P true x rest p h = (p refl, h)
chosen_all P false x rest p h = h

pub all_filter : {X : Type 0} (P : X → Type 0) (p : X → Bool) (xs : List X) → AllByRecursion P xs → AllByRecursion P (filter p xs)
all_filter P p [] h = tt
all_filter P p (x ∷ xs) h = chosen_all P (p x) x (filter p xs) (λ e. h.0) (all_filter P p xs h.1)

-- what is left passes
pub passing : {X : Type 0} (p : X → Bool) (xs : List X) → AllByRecursion (λ x. p x ≡ true) (filter p xs)
passing p [] = tt
passing p (x ∷ xs) = chosen_all (λ y. p y ≡ true) (p x) x (filter p xs) (λ e. e) (passing p xs)

chosen_pairs : {X : Type 0} (P : X → X → Type 0) (b : Bool) (x : X) (rest : List X) → AllByRecursion (P x) rest → Pairs P rest → Pairs P (cond b (x ∷ rest) rest)
chosen_pairs P true x rest all h = (all, h)
chosen_pairs P false x rest all h = h

pub pairs_filter : {X : Type 0} (P : X → X → Type 0) (p : X → Bool) (xs : List X) → Pairs P xs → Pairs P (filter p xs)
pairs_filter P p [] h = tt
pairs_filter P p (x ∷ xs) h = chosen_pairs P (p x) x (filter p xs) (all_filter (P x) p xs h.0) (pairs_filter P p xs h.1)

pub filter_none : {X : Type 0} (p : X → Bool) (xs : List X) → AllByRecursion (λ x. p x ≡ false) xs → filter p xs ≡ []
filter_none p [] h = refl
filter_none p (x ∷ xs) h = rw h.0 (filter_none p xs h.1)

chosen_long : {X : Type 0} (b : Bool) (x : X) (rest : List X) (n : ℕ) → length rest ≤ n → length (cond b (x ∷ rest) rest) ≤ n + 1
chosen_long true x rest n h = omega arith
chosen_long false x rest n h = omega arith

pub filter_short : {X : Type 0} (p : X → Bool) (xs : List X) → length (filter p xs) ≤ length xs
filter_short p [] = omega arith
filter_short p (x ∷ xs) = let h = chosen_long (p x) x (filter p xs) (length xs) (filter_short p xs) in omega (arith, h)

-- where one is left out it is shorter
pub filter_shorter : {X : Type 0} (p : X → Bool) (xs : List X) → list_any (λ x. not (p x)) xs ≡ true → length (filter p xs) + 1 ≤ length xs
filter_shorter p [] h = absurd (let bad : false ≡ true = h in cc)
filter_shorter p (x ∷ xs) h = by (cases_Bool (p x)) (λ more. filter_shorter p xs more)
  where
    by : (p x ≡ true) ⊎ (p x ≡ false) → (list_any (λ y. not (p y)) xs ≡ true → length (filter p xs) + 1 ≤ length xs) → length (filter p (x ∷ xs)) + 1 ≤ length (x ∷ xs)
    by (inl kept) rest =
        let more : list_any (λ y. not (p y)) xs ≡ true = rw kept at h in
        let shorter = rest more in
        rw kept (omega arith)
    by (inr gone) rest = let short = filter_short p xs in rw gone (omega arith)

-- ---- one put between two parts

all_insert : {X : Type 0} (P : X → Type 0) (xs : List X) (r : X) (ys : List X) → AllByRecursion P (xs ++ ys) → P r → AllByRecursion P (xs ++ r ∷ ys)
all_insert P [] r ys h p = (p, h)
all_insert P (x ∷ xs) r ys h p = (h.0, all_insert P xs r ys h.1 p)

pub all_between : {X : Type 0} (P : X → Type 0) (xs : List X) (r : X) (ys : List X) → AllByRecursion P xs → P r → AllByRecursion P ys → AllByRecursion P (xs ++ r ∷ ys)
all_between P [] r ys h p q = (p, q)
all_between P (x ∷ xs) r ys h p q = (h.0, all_between P xs r ys h.1 p q)

pub all_here : {X : Type 0} (P : X → Type 0) (xs : List X) (r : X) (ys : List X) → AllByRecursion P (xs ++ r ∷ ys) → P r
all_here P [] r ys h = h.0
all_here P (x ∷ xs) r ys h = all_here P xs r ys h.1

pub pairs_insert : {X : Type 0} (P : X → X → Type 0) (xs : List X) (r : X) (ys : List X) → Pairs P (xs ++ ys) → AllByRecursion (λ x. P x r) xs → AllByRecursion (P r) ys → Pairs P (xs ++ r ∷ ys)
pairs_insert P [] r ys h before behind = (behind, h)
pairs_insert P (x ∷ xs) r ys h before behind = (all_insert (P x) xs r ys h.0 before.0, pairs_insert P xs r ys h.1 before.1 behind)

pub any_insert : {X : Type 0} (p : X → Bool) (xs : List X) (r : X) (ys : List X) → list_any p (xs ++ ys) ≡ true → list_any p (xs ++ r ∷ ys) ≡ true
any_insert p [] r ys h = or_right (p r) (list_any p ys) h
any_insert p (x ∷ xs) r ys h =
    elim (or_cases (p x) (list_any p (xs ++ ys)) h) [
      | inl here ↦ or_left (p x) (list_any p (xs ++ r ∷ ys)) here
      | inr more ↦ or_right (p x) (list_any p (xs ++ r ∷ ys)) (any_insert p xs r ys more)
    ]

pub any_here : {X : Type 0} (p : X → Bool) (xs : List X) (r : X) (ys : List X) → p r ≡ true → list_any p (xs ++ r ∷ ys) ≡ true
any_here p [] r ys h = or_left (p r) (list_any p ys) h
any_here p (x ∷ xs) r ys h = or_right (p x) (list_any p (xs ++ r ∷ ys)) (any_here p xs r ys h)

-- an element that passes another test is still there, if it isn't left out
pub any_kept : {X : Type 0} (p keep : X → Bool) → ((x : X) → p x ≡ true → keep x ≡ true) → (xs : List X) → list_any p xs ≡ true → list_any p (filter keep xs) ≡ true
any_kept p keep f [] h = h
any_kept p keep f (x ∷ xs) h = by (cases_Bool (keep x)) (λ more. any_kept p keep f xs more)
  where
    by : (keep x ≡ true) ⊎ (keep x ≡ false) → (list_any p xs ≡ true → list_any p (filter keep xs) ≡ true) → list_any p (filter keep (x ∷ xs)) ≡ true
    by (inl kept) rest =
        let whole : (p x || list_any p (filter keep xs)) ≡ true =
        elim (or_cases (p x) (list_any p xs) h) [
          | inl here ↦ or_left (p x) (list_any p (filter keep xs)) here
          | inr more ↦ or_right (p x) (list_any p (filter keep xs)) (rest more)
        ] in
        rw kept whole
    by (inr gone) rest =
        let more : list_any p (filter keep xs) ≡ true =
        elim (or_cases (p x) (list_any p xs) h) [
          | inl here ↦ absurd (let bad : true ≡ false = sym (f x here) ∙ gone in cc)
          | inr more ↦ rest more
        ] in
        rw gone more

-- ---- as a loop does

module _ {X : Type 0} (p : X → Bool) (start xs : List X) (i : ℕ) where
  pub filter_more : (d : X) → i < length xs → (start ++ filter p (take i xs)) ++ cond (p (get_or xs i d)) (get_or xs i d ∷ []) [] ≡ start ++ filter p (take (i + 1) xs)
  filter_more d lt =
      let x = get_or xs i d in
      append_assoc start (filter p (take i xs)) (cond (p x) (x ∷ []) [])
      ∙ ap (λ (t : List X). start ++ t) (sym (filter-append p (take i xs) (x ∷ [])) ∙ ap (filter p) (sym (take_more xs i d lt)))

  pub filter_all : length xs ≤ i → start ++ filter p (take i xs) ≡ start ++ filter p xs
  filter_all le = ap (λ (ys : List X). start ++ filter p ys) (take_all i xs le)
