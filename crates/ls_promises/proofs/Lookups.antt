-- What is seen of a user after a change of the list of users.
use Rattle.std.proofs.Common.{◌≡◌, ◌≢◌, ℕ, Bool, true, false, not, cond, eqb, ltb, eq-eqb, List, [], ◌∷◌, Option, None, Some, refl, sym, ◌∙◌, ap, arith}
use Rattle.std.proofs.lemmas.Bool.Decides.{nat_tests}
use Rattle.std.specs.Prelude.{option_map}
use Rattle.ls_vault.specs.Users.{user_of, changed, with_user, without_user}
use Rattle.ls_vault.specs.declared.user.User.{User}

pub not_eqb : (a b : ℕ) → a ≢ b → eqb a b ≡ false
not_eqb a b differ = grind (arith, nat_tests)

pub eqb_is : (a b : ℕ) → eqb a b ≡ true → a ≡ b
eqb_is a b is = grind (arith, nat_tests)

pub eqb_differs : (a b : ℕ) → eqb a b ≡ false → a ≢ b
eqb_differs a b is same = grind (arith, nat_tests)

-- of a user with this number, as g shows it
abbrev pub seen : {A : Type 0} → (User → A) → List User → ℕ → Option A
seen g users n = option_map g (user_of users n)

-- the change leaves numbers as they are
abbrev pub KeepsNumber : (User → User) → Type 0
KeepsNumber f = (u : User) → (f u).number ≡ u.number

module _ {A : Type 0} (g : User → A) (f : User → User) (keeps : KeepsNumber f) (n m : ℕ) where
  kept_cases : (u : User) (users : List User) (b d e : Bool) → eqb u.number n ≡ b → eqb u.number m ≡ d → eqb (f u).number m ≡ e → g (f u) ≡ g u
      → option_map g (user_of (changed users n f) m) ≡ option_map g (user_of users m)
      → option_map g (user_of (cond b (f u ∷ users) (u ∷ changed users n f)) m) ≡ option_map g (cond d (Some u) (user_of users m))
  kept_cases u users true d e bn dm em same rest =
      ap (λ x. option_map g (cond x (Some (f u)) (user_of users m))) (ap (λ k. eqb k m) (keeps u) ∙ dm) ∙ inner d
    where
      inner : (d : Bool) → option_map g (cond d (Some (f u)) (user_of users m)) ≡ option_map g (cond d (Some u) (user_of users m))
      inner true = ap Some same
      inner false = refl
  kept_cases u users false d e bn dm em same rest =
      ap (λ x. option_map g (cond x (Some u) (user_of (changed users n f) m))) dm ∙ inner d
    where
      inner : (d : Bool) → option_map g (cond d (Some u) (user_of (changed users n f) m)) ≡ option_map g (cond d (Some u) (user_of users m))
      inner true = refl
      inner false = rest

  -- a change that g doesn't show
  pub seen_kept : ((u : User) → g (f u) ≡ g u) → (users : List User) → seen g (changed users n f) m ≡ seen g users m
  seen_kept same [] = refl
  seen_kept same (u ∷ users) = kept_cases u users (eqb u.number n) (eqb u.number m) (eqb (f u).number m) refl refl refl (same u) (seen_kept same users)

  other_cases : n ≢ m → (u : User) (users : List User) (b : Bool) → eqb u.number n ≡ b
      → option_map g (user_of (changed users n f) m) ≡ option_map g (user_of users m)
      → option_map g (user_of (cond b (f u ∷ users) (u ∷ changed users n f)) m) ≡ option_map g (cond (eqb u.number m) (Some u) (user_of users m))
  other_cases differ u users true is rest =
      let here : eqb u.number m ≡ false = not_eqb u.number m (λ same. differ (sym (eqb_is u.number n is) ∙ same)) in
      ap (λ x. option_map g (cond x (Some (f u)) (user_of users m))) (ap (λ k. eqb k m) (keeps u) ∙ here)
      ∙ sym (ap (λ x. option_map g (cond x (Some u) (user_of users m))) here)
  other_cases differ u users false is rest = inner (eqb u.number m)
    where
      inner : (d : Bool) → option_map g (cond d (Some u) (user_of (changed users n f) m)) ≡ option_map g (cond d (Some u) (user_of users m))
      inner true = refl
      inner false = rest

  -- a change of another user
  pub seen_other : n ≢ m → (users : List User) → seen g (changed users n f) m ≡ seen g users m
  seen_other differ [] = refl
  seen_other differ (u ∷ users) = other_cases differ u users (eqb u.number n) refl (seen_other differ users)

-- the user that is changed
module _ (f : User → User) (keeps : KeepsNumber f) (n : ℕ) where
  found_cases : (u : User) (users : List User) (b : Bool) → eqb u.number n ≡ b → user_of (changed users n f) n ≡ option_map f (user_of users n)
      → user_of (cond b (f u ∷ users) (u ∷ changed users n f)) n ≡ option_map f (cond b (Some u) (user_of users n))
  found_cases u users true is rest = ap (λ x. cond x (Some (f u)) (user_of users n)) (ap (λ k. eqb k n) (keeps u) ∙ is)
  found_cases u users false is rest = ap (λ x. cond x (Some u) (user_of (changed users n f) n)) is ∙ rest

  pub user_of-changed : (users : List User) → user_of (changed users n f) n ≡ option_map f (user_of users n)
  user_of-changed [] = refl
  user_of-changed (u ∷ users) = found_cases u users (eqb u.number n) refl (user_of-changed users)

-- a new user
with_cases : (u user : User) (users : List User) (m : ℕ) (b : Bool) → user.number ≢ m → user_of (with_user users user) m ≡ user_of users m
    → user_of (cond b (u ∷ with_user users user) (user ∷ u ∷ users)) m ≡ cond (eqb u.number m) (Some u) (user_of users m)
with_cases u user users m true differ rest = ap (λ (o : Option User). cond (eqb u.number m) (Some u) o) rest
with_cases u user users m false differ rest = ap (λ x. cond x (Some user) (cond (eqb u.number m) (Some u) (user_of users m))) (not_eqb user.number m differ)

pub user_of-with_other : (users : List User) (user : User) (m : ℕ) → user.number ≢ m → user_of (with_user users user) m ≡ user_of users m
user_of-with_other [] user m differ = ap (λ x. cond x (Some user) None) (not_eqb user.number m differ)
user_of-with_other (u ∷ users) user m differ = with_cases u user users m (ltb u.number user.number) differ (user_of-with_other users user m differ)

added_cases : (u user : User) (users : List User) (b : Bool) → ltb u.number user.number ≡ b → user_of (with_user users user) user.number ≡ Some user
    → user_of (cond b (u ∷ with_user users user) (user ∷ u ∷ users)) user.number ≡ Some user
added_cases u user users true less rest =
    let other : eqb u.number user.number ≡ false = grind (arith, nat_tests, less) in
    ap (λ x. cond x (Some u) (user_of (with_user users user) user.number)) other ∙ rest
added_cases u user users false less rest = ap (λ x. cond x (Some user) (cond (eqb u.number user.number) (Some u) (user_of users user.number))) (eq-eqb user.number user.number refl)

pub user_of-with : (users : List User) (user : User) → user_of (with_user users user) user.number ≡ Some user
user_of-with [] user = ap (λ x. cond x (Some user) None) (eq-eqb user.number user.number refl)
user_of-with (u ∷ users) user = added_cases u user users (ltb u.number user.number) refl (user_of-with users user)

-- a user who is gone
gone_cases : (u : User) (users : List User) (n m : ℕ) (b : Bool) → eqb u.number n ≡ b → n ≢ m → user_of (without_user users n) m ≡ user_of users m
    → user_of (cond (not b) (u ∷ without_user users n) (without_user users n)) m ≡ cond (eqb u.number m) (Some u) (user_of users m)
gone_cases u users n m true is differ rest =
    rest ∙ sym (ap (λ x. cond x (Some u) (user_of users m)) (not_eqb u.number m (λ same. differ (sym (eqb_is u.number n is) ∙ same))))
gone_cases u users n m false is differ rest = ap (λ (o : Option User). cond (eqb u.number m) (Some u) o) rest

pub user_of-without_other : (users : List User) (n m : ℕ) → n ≢ m → user_of (without_user users n) m ≡ user_of users m
user_of-without_other [] n m differ = refl
user_of-without_other (u ∷ users) n m differ = gone_cases u users n m (eqb u.number n) refl differ (user_of-without_other users n m differ)

none_cases : (u : User) (users : List User) (n : ℕ) (b : Bool) → eqb u.number n ≡ b → user_of (without_user users n) n ≡ None
    → user_of (cond (not b) (u ∷ without_user users n) (without_user users n)) n ≡ None
none_cases u users n true is rest = rest
none_cases u users n false is rest = ap (λ x. cond x (Some u) (user_of (without_user users n) n)) is ∙ rest

pub user_of-without : (users : List User) (n : ℕ) → user_of (without_user users n) n ≡ None
user_of-without [] n = refl
user_of-without (u ∷ users) n = none_cases u users n (eqb u.number n) refl (user_of-without users n)
