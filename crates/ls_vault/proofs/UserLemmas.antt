-- A change of the user at a place.
use Rattle.std.proofs.Common.{◌≡◌, ◌<◌, ◌≤◌, ◌+◌, ℕ, suc, Bool, true, false, not, cond, eqb, List, [], ◌∷◌, Some, None, length, get_or, set, refl, sym, ◌∙◌, ap, subst, arith}
use Rattle.std.specs.List.{prefix_len}
use Rattle.ls_vault.specs.Users.{user_of, changed}
use Rattle.ls_vault.specs.declared.user.User.{User}

abbrev pub place : List User → ℕ → ℕ
place users n = prefix_len (λ u. not (eqb u.number n)) users

module _ (n : ℕ) (f : User → User) where
  at_more : (u d : User) (users : List User) (b : Bool) (i : ℕ) → eqb u.number n ≡ b → i ≡ cond (not b) (1 + place users n) 0 → i < length (u ∷ users)
      → ((j : ℕ) → j ≡ place users n → j < length users → set users j (f (get_or users j d)) ≡ changed users n f)
      → set (u ∷ users) i (f (get_or (u ∷ users) i d)) ≡ cond b (f u ∷ users) (u ∷ changed users n f)
  at_more u d users true i test is here rest = subst (λ j. set (u ∷ users) j (f (get_or (u ∷ users) j d)) ≡ f u ∷ users) (sym is) refl
  at_more u d users false i test is here rest =
      let next : i ≡ suc (place users n) = omega (arith, is) in
      let less : place users n < length users = omega (arith, next, here) in
      subst (λ j. set (u ∷ users) j (f (get_or (u ∷ users) j d)) ≡ u ∷ changed users n f) (sym next) (ap (λ (us : List User). u ∷ us) (rest (place users n) refl less))

  -- the one at its place is the one that is changed
  pub changed_at : (users : List User) (i : ℕ) (d : User) → i ≡ place users n → i < length users → set users i (f (get_or users i d)) ≡ changed users n f
  changed_at [] i d is here = absurd (omega (arith, here))
  changed_at (u ∷ users) i d is here = at_more u d users (eqb u.number n) i refl is here (λ j same less. changed_at users j d same less)

  none_more : (u : User) (users : List User) (b : Bool) → length (u ∷ users) ≤ cond (not b) (1 + place users n) 0 → (length users ≤ place users n → changed users n f ≡ users)
      → cond b (f u ∷ users) (u ∷ changed users n f) ≡ u ∷ users
  none_more u users true past rest = absurd (omega (arith, past))
  none_more u users false past rest = ap (λ (us : List User). u ∷ us) (rest (omega (arith, past)))

  -- where there is none, nothing changes
  pub none_changed : (users : List User) → length users ≤ place users n → changed users n f ≡ users
  none_changed [] past = refl
  none_changed (u ∷ users) past = none_more u users (eqb u.number n) past (λ here. none_changed users here)

-- the same, where the user was read and is written anew
pub changed_by : (users : List User) (n : ℕ) (f : User → User) (i : ℕ) (x y : User) → i ≡ place users n → i < length users → x ≡ get_or users i x → y ≡ f x → set users i y ≡ changed users n f
changed_by users n f i x y is here read new =
    ap (λ (z : User). set users i z) (new ∙ ap f read) ∙ changed_at n f users i x is here

missing_cases : (u : User) (users : List User) (n : ℕ) (f : User → User) (b : Bool) → cond b (Some u) (user_of users n) ≡ None → (user_of users n ≡ None → users ≡ changed users n f)
    → u ∷ users ≡ cond b (f u ∷ users) (u ∷ changed users n f)
missing_cases u users n f true none rest = absurd (cc)
missing_cases u users n f false none rest = ap (λ (us : List User). u ∷ us) (rest none)

-- where there is no such user, nothing changes
pub changed_missing : (users : List User) (n : ℕ) (f : User → User) → user_of users n ≡ None → users ≡ changed users n f
changed_missing [] n f none = refl
changed_missing (u ∷ users) n f none = missing_cases u users n f (eqb u.number n) none (changed_missing users n f)

alike_cases : (u v : User) (users : List User) (n : ℕ) (f g : User → User) (b : Bool) → cond b (Some u) (user_of users n) ≡ Some v → f v ≡ g v → (user_of users n ≡ Some v → changed users n f ≡ changed users n g)
    → cond b (f u ∷ users) (u ∷ changed users n f) ≡ cond b (g u ∷ users) (u ∷ changed users n g)
alike_cases u v users n f g true found same rest = let is : u ≡ v = cc in ap (λ (x : User). x ∷ users) (ap f is ∙ (same ∙ ap g (sym is)))
alike_cases u v users n f g false found same rest = ap (λ (us : List User). u ∷ us) (rest found)

-- two changes that do the same to this user
pub changed_alike : (users : List User) (n : ℕ) (f g : User → User) (v : User) → user_of users n ≡ Some v → f v ≡ g v → changed users n f ≡ changed users n g
changed_alike [] n f g v found same = refl
changed_alike (u ∷ users) n f g v found same = alike_cases u v users n f g (eqb u.number n) found same (λ there. changed_alike users n f g v there same)
