-- Lists of which some are left, one element after another.
use Rattle.std.proofs.Common.{◌≡◌, ◌⊎◌, inl, inr, not, ℕ, zero, suc, ◌+◌, ◌≤◌, ◌<◌, length, take, get_or, Bool, true, false, List, [], ◌∷◌, ◌++◌, refl, sym, ◌∙◌, ap, subst, arith, ◌||◌, eqb}
use Rattle.std.specs.Prelude.{MatchBool, ◌↔◌}
use Rattle.std.specs.List.{Contains}
use Rattle.std.proofs.lemmas.Bool.{eqb-true, eq-eqb, cases_order}
use Rattle.std.proofs.lemmas.List.{append-nil, take_more, take_all}
use Rattle.std.proofs.lemmas.List.Elements.{Contains-append_left, Contains-append_right, Contains-append_cases}
use Rattle.ls_naming.specs.Named.{only_if}
use Rattle.ls_arming.specs.Numbers.{contains}
use Rattle.ls_standing.proofs.ContainsLemmas.{none_in, at_first, behind_first, first_or_behind}
use Rattle.ls_sweep.specs.Sifted.{AreThose, AreUnusedBelow, numbers_below}

module _ {X : Type 0} (P : X → Type 0) where
  -- one more of the list
  those_more : (front left : List X) (x : X) (b : Bool) → AreThose P front left → MatchBool b (P x) (¬ P x) → AreThose P (front ++ x ∷ []) (left ++ only_if b (x ∷ []))
  those_more [] left x true those has = inr ([], has, ap (λ (l : List X). l ++ x ∷ []) those, refl)
  those_more [] left x false those hasnt = inl (hasnt, append-nil left ∙ those)
  those_more (y ∷ front) left x b (inl skipped) is = inl (skipped.0, those_more front left x b skipped.1 is)
  those_more (y ∷ front) left x b (inr kept) is =
      inr (kept.0 ++ only_if b (x ∷ []), kept.1, ap (λ (l : List X). l ++ only_if b (x ∷ [])) kept.2, those_more front kept.0 x b kept.3 is)

  -- in a loop over it
  pub sifted_more : (xs left new : List X) (i : ℕ) (x : X) (b : Bool) → AreThose P (take i xs) left → i < length xs → x ≡ get_or xs i x
      → MatchBool b (P x) (¬ P x) → new ≡ left ++ only_if b (x ∷ []) → AreThose P (take (i + 1) xs) new
  sifted_more xs left new i x b those within at is pushed =
      let next = those_more (take i xs) left x b those is in
      subst (λ (l : List X). AreThose P (take (i + 1) xs) l) (sym pushed)
      (subst (λ (l : List X). AreThose P l (left ++ only_if b (x ∷ []))) (ap (λ (y : X). take i xs ++ y ∷ []) at ∙ sym (take_more xs i x within)) next)

  pub sifted_whole : (xs left : List X) (i : ℕ) → AreThose P (take i xs) left → length xs ≤ i → AreThose P xs left
  sifted_whole xs left i those past = subst (λ (l : List X). AreThose P l left) (take_all i xs past) those

  -- ---- what is left is contained

  one_skipped : (y : X) (all left : List X) (x : X) → ¬ P y → (Contains left x ↔ (Contains all x × P x)) → Contains left x ↔ (Contains (y ∷ all) x × P x)
  one_skipped y all left x hasnt rest = (λ k. let both = rest.0 k in (behind_first y all x both.0, both.1), λ both. by both.1 (first_or_behind y all x both.0))
    where
      by : P x → (y ≡ x) ⊎ Contains all x → Contains left x
      by has (inl same) = absurd (hasnt (subst P (sym same) has))
      by has (inr k) = rest.1 (k, has)

  one_kept : (y : X) (all behind : List X) (x : X) → P y → (Contains behind x ↔ (Contains all x × P x)) → Contains (y ∷ behind) x ↔ (Contains (y ∷ all) x × P x)
  one_kept y all behind x has rest = (λ k. into (first_or_behind y behind x k), λ both. out both.1 (first_or_behind y all x both.0))
    where
      into : (y ≡ x) ⊎ Contains behind x → Contains (y ∷ all) x × P x
      into (inl same) = (subst (λ (z : X). Contains (z ∷ all) x) (sym same) (at_first x all), subst P same has)
      into (inr k) = let both = rest.0 k in (behind_first y all x both.0, both.1)

      out : P x → (y ≡ x) ⊎ Contains all x → Contains (y ∷ behind) x
      out p (inl same) = subst (λ (z : X). Contains (z ∷ behind) x) (sym same) (at_first x behind)
      out p (inr k) = behind_first y behind x (rest.1 (k, p))

  pub those_are : (all left : List X) (x : X) → AreThose P all left → Contains left x ↔ (Contains all x × P x)
  those_are [] left x those = (λ k. absurd (none_in x (subst (λ (l : List X). Contains l x) those k)), λ both. absurd (none_in x both.0))
  those_are (y ∷ all) left x (inl skipped) = one_skipped y all left x skipped.0 (those_are all left x skipped.1)
  those_are (y ∷ all) left x (inr kept) =
      subst (λ (l : List X). Contains l x ↔ (Contains (y ∷ all) x × P x)) (sym kept.2) (one_kept y all kept.0 x kept.1 (those_are all kept.0 x kept.3))

-- ---- what isn't named is left

unless : (Q : Type 0) (b : Bool) → MatchBool b Q (¬ Q) → MatchBool (not b) (¬ Q) (¬ (¬ Q))
unless Q true is = λ isnt. isnt is
unless Q false isnt = isnt

pub unnamed_next : (Q : ℕ → Type 0) (xs left new : List ℕ) (i : ℕ) (b : Bool) → AreThose (λ y. ¬ Q y) (take i xs) left → i < length xs
    → MatchBool b (Q (get_or xs i 0)) (¬ Q (get_or xs i 0)) → new ≡ left ++ only_if (not b) (get_or xs i 0 ∷ []) → AreThose (λ y. ¬ Q y) (take (i + 1) xs) new
unnamed_next Q xs left new i b those within named is =
    let next = those_more (λ y. ¬ Q y) (take i xs) left (get_or xs i 0) (not b) those (unless (Q (get_or xs i 0)) b named) in
    subst (λ (l : List ℕ). AreThose (λ y. ¬ Q y) (take (i + 1) xs) l) (sym is)
    (subst (λ (l : List ℕ). AreThose (λ y. ¬ Q y) l (left ++ only_if (not b) (get_or xs i 0 ∷ []))) (sym (take_more xs i 0 within)) next)

pub unnamed_whole : (Q : ℕ → Type 0) (xs left : List ℕ) (i : ℕ) → AreThose (λ y. ¬ Q y) (take i xs) left → length xs ≤ i → AreThose (λ y. ¬ Q y) xs left
unnamed_whole Q xs left i those past = sifted_whole (λ y. ¬ Q y) xs left i those past

-- ---- slots

-- the test says whether it is one of them
is_in : (ys : List ℕ) (x : ℕ) → contains ys x ≡ true → Contains ys x
is_in [] x is = absurd (cc)
is_in (y ∷ ys) x is = by (eqb y x) refl is (is_in ys x)
  where
    by : (b : Bool) → eqb y x ≡ b → (b || contains ys x) ≡ true → (contains ys x ≡ true → Contains ys x) → Contains (y ∷ ys) x
    by true e is rest = subst (λ (z : ℕ). Contains (z ∷ ys) x) (sym (eqb-true y x e)) (at_first x ys)
    by false e is rest = behind_first y ys x (rest is)

not_in : (ys : List ℕ) (x : ℕ) → contains ys x ≡ false → ¬ Contains ys x
not_in [] x is has = none_in x has
not_in (y ∷ ys) x is has = by (eqb y x) refl is (not_in ys x) (first_or_behind y ys x has)
  where
    by : (b : Bool) → eqb y x ≡ b → (b || contains ys x) ≡ false → (contains ys x ≡ false → ¬ Contains ys x) → (y ≡ x) ⊎ Contains ys x → ⊥
    by true e is rest either = absurd (cc)
    by false e is rest (inl same) = let bad : true ≡ false = sym (eq-eqb y x same) ∙ e in absurd (cc)
    by false e is rest (inr k) = rest is k

in_test : (used : List ℕ) (x : ℕ) (b : Bool) → b ≡ contains used x → MatchBool b (Contains used x) (¬ Contains used x)
in_test used x true is = is_in used x (sym is)
in_test used x false is = not_in used x (sym is)

pub unused_next : (used left new : List ℕ) (i : ℕ) (b : Bool) → AreUnusedBelow i used left → b ≡ contains used i → new ≡ left ++ only_if (not b) (i ∷ [])
    → AreUnusedBelow (i + 1) used new
unused_next used left new i b those test is =
    let more : suc i ≡ i + 1 = omega arith in
    let next = those_more (λ n. ¬ Contains used n) (numbers_below i) left i (not b) those (unless (Contains used i) b (in_test used i b test)) in
    subst (λ (n : ℕ). AreUnusedBelow n used new) more (subst (λ (l : List ℕ). AreThose (λ n. ¬ Contains used n) (numbers_below (suc i)) l) (sym is) next)

below_or_last : (y i : ℕ) → y < suc i → (y < i) ⊎ (i ≡ y)
below_or_last y i below = at (cases_order y i)
  where
    at : (y ≡ i) ⊎ ((y < i) ⊎ (i < y)) → (y < i) ⊎ (i ≡ y)
    at (inl same) = inr (sym same)
    at (inr (inl low)) = inl low
    at (inr (inr high)) = absurd (omega (arith, below, high))

next_below : (n x : ℕ) → (Contains (numbers_below n) x ↔ (x < n)) → Contains (numbers_below n ++ n ∷ []) x ↔ (x < suc n)
next_below n x rest = (λ k. into (Contains-append_cases (numbers_below n) (n ∷ []) x k), λ low. out (below_or_last x n low))
  where
    into : Contains (numbers_below n) x ⊎ Contains (n ∷ []) x → x < suc n
    into (inl k) = let low = rest.0 k in omega (arith, low)
    into (inr k) = last (first_or_behind n [] x k)
      where
        last : (n ≡ x) ⊎ Contains [] x → x < suc n
        last (inl same) = omega (arith, same)
        last (inr none) = absurd (none_in x none)

    out : (x < n) ⊎ (n ≡ x) → Contains (numbers_below n ++ n ∷ []) x
    out (inl low) = Contains-append_left (numbers_below n) (n ∷ []) x (rest.1 low)
    out (inr same) = Contains-append_right (numbers_below n) (n ∷ []) x (subst (Contains (n ∷ [])) same (at_first n []))

in_numbers : (n x : ℕ) → Contains (numbers_below n) x ↔ (x < n)
in_numbers zero x = (λ k. absurd (none_in x k), λ low. absurd (omega (arith, low)))
in_numbers (suc n) x = next_below n x (in_numbers n x)

-- those that aren't used are contained
pub unused_are : (count : ℕ) (used left : List ℕ) (x : ℕ) → AreUnusedBelow count used left → Contains left x ↔ ((x < count) × (¬ Contains used x))
unused_are count used left x those =
    let are = those_are (λ n. ¬ Contains used n) (numbers_below count) left x those in
    let low = in_numbers count x in
    (λ k. let both = are.0 k in (low.0 both.0, both.1), λ both. are.1 (low.1 both.0, both.1))
