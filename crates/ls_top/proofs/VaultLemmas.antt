-- Numbers in ascending order, with one more.
use Rattle.std.proofs.Common.{◌≡◌, ◌<◌, ◌≤◌, ◌+◌, ◌^◌, ◌++◌, ℕ, zero, suc, Bool, true, false, cond, List, [], ◌∷◌, length, get_or, refl, sym, ◌∙◌, ap, subst, arith, add-one, one-add}
use Rattle.std.specs.Prelude.{nat_lt, filter, insert, ◌==◌, ◌||◌}
use Rattle.std.specs.List.{AllByRecursion, All, AllPairs, list_any, prefix_len}
use Rattle.std.specs.List.Sorted.{IsStrictlyIncreasing}
use Rattle.std.proofs.lemmas.Bool.{lt-ltb, le-ltb, ltb-true, ltb-false, eqb-false, lt-leb}
use Rattle.std.proofs.lemmas.List.Kept.{AllPairs-from_increasing}
use Rattle.std.proofs.lemmas.List.Elements.{recursion_from_All, All-from_recursion}
use Rattle.std.proofs.lemmas.List.Edits.{length-insert}
use Rattle.ls_top.specs.Vault.{IsVault, step, with_user}
use Rattle.ls_top.specs.declared.vault.Command.TheVariants.{Add}
use Rattle.ls_top.specs.declared.vault.Reply.TheVariants.{Fine}

-- the place of a new number is within the list
pub place_le : (p : ℕ → Bool) (xs : List ℕ) → prefix_len p xs ≤ length xs
place_le p [] = omega arith
place_le p (x ∷ xs) = elim (p x) as (λ b. cond b (1 + prefix_len p xs) 0 ≤ suc (length xs)) [
  | true ↦ omega (arith, place_le p xs)
  | false ↦ omega arith
]

-- each number is below all later ones
abbrev Rising : List ℕ → Type 0
Rising [] = Unit {0}
Rising (x ∷ xs) = AllByRecursion (λ y. x < y) xs × Rising xs

above : (x y : ℕ) (xs : List ℕ) → x < y → AllByRecursion (λ z. y < z) xs → AllByRecursion (λ z. x < z) xs
above x y [] lt all = tt
above x y (z ∷ xs) lt all = (omega (arith, all.0), above x y xs lt all.1)

from_pairs : (xs : List ℕ) → AllPairs (λ x y. x < y) xs → Rising xs
from_pairs [] pairs = tt
from_pairs (x ∷ xs) pairs = (
  recursion_from_All (λ y. x < y) xs (λ k d lt. pairs 0 (suc k) d (omega arith) (omega arith)),
  from_pairs xs (λ i j d lt below. pairs (suc i) (suc j) d (omega arith) (omega arith)),
)

rising_from : (xs : List ℕ) → IsStrictlyIncreasing xs → Rising xs
rising_from xs inc = from_pairs xs (AllPairs-from_increasing xs inc)

rising_next : (xs : List ℕ) → Rising xs → (k : ℕ) → suc k < length xs → get_or xs k 0 < get_or xs (suc k) 0
rising_next [] rising k lt = absurd (omega arith)
rising_next (x ∷ []) rising k lt = absurd (omega arith)
rising_next (x ∷ y ∷ xs) rising zero lt = rising.0.0
rising_next (x ∷ y ∷ xs) rising (suc k) lt = rising_next (y ∷ xs) rising.1 k (omega arith)

rising_to : (xs : List ℕ) → Rising xs → IsStrictlyIncreasing xs
rising_to xs rising k lt = rw add-one (rising_next xs rising k (omega arith))

-- ---- a number put in its place

abbrev placed : ℕ → List ℕ → List ℕ
placed u [] = u ∷ []
placed u (x ∷ xs) = cond (nat_lt x u) (x ∷ placed u xs) (u ∷ x ∷ xs)

insert_placed : (u : ℕ) (xs : List ℕ) → insert xs (prefix_len (λ o. nat_lt o u) xs) u ≡ placed u xs
insert_placed u [] = refl
insert_placed u (x ∷ xs) = elim (nat_lt x u) as (λ b. insert (x ∷ xs) (cond b (1 + prefix_len (λ o. nat_lt o u) xs) 0) u ≡ cond b (x ∷ placed u xs) (u ∷ x ∷ xs)) [
  | true ↦ rw one-add (ap (λ (l : List ℕ). x ∷ l) (insert_placed u xs))
  | false ↦ refl
]

placed_all : (P : ℕ → Type 0) (u : ℕ) (xs : List ℕ) → P u → AllByRecursion P xs → AllByRecursion P (placed u xs)
placed_all P u [] here all = (here, tt)
placed_all P u (x ∷ xs) here all = elim (nat_lt x u) as (λ b. AllByRecursion P (cond b (x ∷ placed u xs) (u ∷ x ∷ xs))) [
  | true ↦ (all.0, placed_all P u xs here all.1)
  | false ↦ (here, all)
]

-- ---- a number that isn't there

other_head : (u x : ℕ) (xs : List ℕ) → list_any (λ o. o == u) (x ∷ xs) ≡ false → (x == u) ≡ false
other_head u x xs none = elim (x == u) as (λ b. (b || list_any (λ o. o == u) xs) ≡ false → b ≡ false) [ true ↦ λ h. h | false ↦ λ h. refl ] none

other_tail : (u x : ℕ) (xs : List ℕ) → list_any (λ o. o == u) (x ∷ xs) ≡ false → list_any (λ o. o == u) xs ≡ false
other_tail u x xs none = elim (x == u) as (λ b. (b || list_any (λ o. o == u) xs) ≡ false → list_any (λ o. o == u) xs ≡ false) [ true ↦ λ h. absurd (cc) | false ↦ λ h. h ] none

below_head : (u x : ℕ) → (x == u) ≡ false → nat_lt x u ≡ false → u < x
below_head u x other least = grind (arith, eqb-false x u other, ltb-false x u least)

placed_rising : (u : ℕ) (xs : List ℕ) → list_any (λ o. o == u) xs ≡ false → Rising xs → Rising (placed u xs)
placed_rising u [] none rising = (tt, tt)
placed_rising u (x ∷ xs) none rising = elim (nat_lt x u) as (λ b. nat_lt x u ≡ b → Rising (cond b (x ∷ placed u xs) (u ∷ x ∷ xs))) [
  | true ↦ λ is. (placed_all (λ y. x < y) u xs (ltb-true x u is) rising.0, placed_rising u xs (other_tail u x xs none) rising.1)
  | false ↦ λ is.
      let first : u < x = below_head u x (other_head u x xs none) is in
      ((first, above u x xs first rising.0), rising)
] refl

filter_none : (u : ℕ) (xs : List ℕ) → AllByRecursion (λ y. u < y) xs → filter (λ o. nat_lt o u) xs ≡ []
filter_none u [] all = refl
filter_none u (x ∷ xs) all = rw (le-ltb x u (omega (arith, all.0))) (filter_none u xs all.1)

filter_all : (u : ℕ) (xs : List ℕ) → AllByRecursion (λ y. u < y) xs → filter (λ o. nat_lt u o) xs ≡ xs
filter_all u [] all = refl
filter_all u (x ∷ xs) all = rw (lt-ltb u x all.0) (ap (λ (l : List ℕ). x ∷ l) (filter_all u xs all.1))

placed_is : (u : ℕ) (xs : List ℕ) → list_any (λ o. o == u) xs ≡ false → Rising xs → placed u xs ≡ with_user xs u
placed_is u [] none rising = refl
placed_is u (x ∷ xs) none rising = elim (nat_lt x u) as (λ b. nat_lt x u ≡ b → cond b (x ∷ placed u xs) (u ∷ x ∷ xs)
    ≡ cond b (x ∷ filter (λ o. nat_lt o u) xs) (filter (λ o. nat_lt o u) xs) ++ u ∷ cond (nat_lt u x) (x ∷ filter (λ o. nat_lt u o) xs) (filter (λ o. nat_lt u o) xs)) [
      | true ↦ λ is. rw (le-ltb u x (omega (arith, ltb-true x u is))) (ap (λ (l : List ℕ). x ∷ l) (placed_is u xs (other_tail u x xs none) rising.1))
      | false ↦ λ is.
          let first : u < x = below_head u x (other_head u x xs none) is in
          let all = above u x xs first rising.0 in
          rw (lt-ltb u x first, filter_none u xs all, filter_all u xs all) refl
    ] refl

-- ---- one more user

module _ (users new : List ℕ) (user : ℕ) (vault : IsVault users) (none : list_any (λ o. o == user) users ≡ false)
    (is : new ≡ insert users (prefix_len (λ o. nat_lt o user) users) user) where
  pub added_is : new ≡ with_user users user
  added_is = is ∙ insert_placed user users ∙ placed_is user users none (rising_from users vault.ascending)

  pub added_vault : user < 2 ^ 32 → length users < 16 → IsVault new
  added_vault small few =
      let same : new ≡ placed user users = is ∙ insert_placed user users in
      record {
        ascending = subst (λ (l : List ℕ). IsStrictlyIncreasing l) (sym same) (rising_to _ (placed_rising user users none (rising_from users vault.ascending)));
        few = omega (arith, ap length is, length-insert users (prefix_len (λ o. nat_lt o user) users) user (place_le _ users));
        numbers = subst (λ (l : List ℕ). All (λ u. u < 2 ^ 32) l) (sym same) (All-from_recursion _ _ (placed_all (λ u. u < 2 ^ 32) user users small (recursion_from_All _ _ vault.numbers)));
      }

  pub added_step : length users < 16 → step users (Add user) ≡ record { reply = Fine; users = new }
  added_step few = rw (none, lt-leb 16 (length users) few) (ap (λ (l : List ℕ). record { reply = Fine; users = l }) (sym added_is))
