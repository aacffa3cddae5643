-- One user of a list is changed.
use Rattle.std.proofs.Common.{◌≡◌, ℕ, Bool, true, false, cond, List, [], ◌∷◌, Option, Some, refl, sym, ◌∙◌, ap, subst}
use Rattle.std.specs.Prelude.{◌==◌, IsSomeAnd}
use Rattle.ls_vault.specs.declared.user.User.{User}
use Rattle.ls_vault.specs.Users.{user_of, changed}

-- what is so of a user is so of it in the changed list, where the change keeps it
pub user_changed : (P : User → Type 0) (users : List User) (n : ℕ) (f : User → User) → ((u : User) → ((f u).number ≡ u.number) × (P u → P (f u))) → (m : ℕ) → IsSomeAnd (user_of users m) P → IsSomeAnd (user_of (changed users n f) m) P
user_changed P [] n f keeps m has = has
user_changed P (x ∷ users) n f keeps m has = by (x.number == n) (x.number == m) refl has (user_changed P users n f keeps m)
  where
    by : (b c : Bool) → (x.number == m) ≡ c → IsSomeAnd (cond c (Some x) (user_of users m)) P → (IsSomeAnd (user_of users m) P → IsSomeAnd (user_of (changed users n f) m) P)
        → IsSomeAnd (user_of (cond b (f x ∷ users) (x ∷ changed users n f)) m) P
    by true true is has later = subst (λ (c : Bool). IsSomeAnd (cond c (Some (f x)) (user_of users m)) P) (sym (ap (λ (k : ℕ). k == m) (keeps x).0 ∙ is)) ((keeps x).1 has)
    by true false is has later = subst (λ (c : Bool). IsSomeAnd (cond c (Some (f x)) (user_of users m)) P) (sym (ap (λ (k : ℕ). k == m) (keeps x).0 ∙ is)) has
    by false true is has later = subst (λ (c : Bool). IsSomeAnd (cond c (Some x) (user_of (changed users n f) m)) P) (sym is) has
    by false false is has later = subst (λ (c : Bool). IsSomeAnd (cond c (Some x) (user_of (changed users n f) m)) P) (sym is) (later has)

-- a change that leaves the user as it is leaves the list
pub same_changed : (users : List User) (number : ℕ) (u : User) (f : User → User) → user_of users number ≡ Some u → f u ≡ u → changed users number f ≡ users
same_changed [] number u f found is = refl
same_changed (x ∷ users) number u f found is = by (x.number == number) found (λ miss. same_changed users number u f miss is)
  where
    same : ◌≡◌ {A = Option User} (Some x) (Some u) → u ≡ x
    same e = cc

    by : (b : Bool) → cond b (Some x) (user_of users number) ≡ Some u → (user_of users number ≡ Some u → changed users number f ≡ users)
        → cond b (f x ∷ users) (x ∷ changed users number f) ≡ x ∷ users
    by true hit later = ap (λ (y : User). y ∷ users) (subst (λ (y : User). f y ≡ y) (same hit) is)
    by false miss later = ap (λ (l : List User). x ∷ l) (later miss)
