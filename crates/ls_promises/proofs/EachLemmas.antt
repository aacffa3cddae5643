-- What holds of each user that is found by its number.
use Rattle.std.proofs.Common.{◌≡◌, ◌≢◌, ℕ, List, [], Option, None, Some, refl, sym, ◌∙◌, subst}
use Rattle.std.specs.Prelude.{option_map}
use Rattle.ls_promises.proofs.Lookups.{KeepsNumber, seen_other, user_of-changed, user_of-with, user_of-with_other, user_of-without, user_of-without_other}
use Rattle.ls_promises.proofs.SoundParts.{at_number}
use Rattle.ls_vault.specs.Users.{user_of, changed, with_user, without_user}
use Rattle.ls_vault.specs.declared.user.User.{User}

same_some : {A : Type 0} (x y : A) → Some x ≡ Some y → x ≡ y
same_some x y e = cc

-- another user is found as before
pub other_found : (users : List User) (n m : ℕ) (f : User → User) → KeepsNumber f → n ≢ m → user_of (changed users n f) m ≡ user_of users m
other_found users n m f keeps differ = sym (all_of (user_of (changed users n f) m)) ∙ (seen_other (λ u. u) f keeps n m differ users ∙ all_of (user_of users m))
  where
    all_of : (o : Option User) → option_map (λ u. u) o ≡ o
    all_of None = refl
    all_of (Some u) = refl

-- the user that was changed was there
pub found_before : (users : List User) (n : ℕ) (f : User → User) → KeepsNumber f → (u : User) → user_of (changed users n f) n ≡ Some u → (v : User) × (user_of users n ≡ Some v) × (f v ≡ u)
found_before users n f keeps u is = by_seen (user_of users n) refl (sym (user_of-changed f keeps n users) ∙ is)
  where
    by_seen : (o : Option User) → user_of users n ≡ o → option_map f o ≡ Some u → (v : User) × (user_of users n ≡ Some v) × (f v ≡ u)
    by_seen None there e = absurd (cc)
    by_seen (Some v) there e = (v, there, same_some (f v) u e)

module _ (Q : User → Type 0) where
  abbrev pub Each : List User → Type 0
  Each users = (n : ℕ) (u : User) → user_of users n ≡ Some u → Q u

  pub each_none : Each []
  each_none n u is = absurd (cc)

  pub each_changed : (users : List User) (n : ℕ) (f : User → User) → KeepsNumber f → ((u : User) → user_of users n ≡ Some u → Q u → Q (f u)) → Each users → Each (changed users n f)
  each_changed users n f keeps step all =
      at_number (λ m. (u : User) → user_of (changed users n f) m ≡ Some u → Q u) n
      (λ u is. let h = found_before users n f keeps u is in subst Q h.2 (step h.0 h.1 (all n h.0 h.1)))
      (λ m differ u is. all m u (sym (other_found users n m f keeps differ) ∙ is))

  pub each_with : (users : List User) (new : User) → Q new → Each users → Each (with_user users new)
  each_with users new q all =
      at_number (λ m. (u : User) → user_of (with_user users new) m ≡ Some u → Q u) new.number
      (λ u is. subst Q (same_some new u (sym (user_of-with users new) ∙ is)) q)
      (λ m differ u is. all m u (sym (user_of-with_other users new m differ) ∙ is))

  pub each_without : (users : List User) (n : ℕ) → Each users → Each (without_user users n)
  each_without users n all =
      at_number (λ m. (u : User) → user_of (without_user users n) m ≡ Some u → Q u) n
      (λ u is. absurd (let e = user_of-without users n in differ u (sym e ∙ is)))
      (λ m differ u is. all m u (sym (user_of-without_other users n m differ) ∙ is))
    where
      differ : (u : User) → None ≡ Some u → ⊥
      differ u e = cc
