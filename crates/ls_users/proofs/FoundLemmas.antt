-- The entry of an opened user.
use Rattle.std.proofs.Common.{◌≡◌, ℕ, Bool, true, false, cond, List, [], ◌∷◌, Option, None, Some, refl, subst}
use Rattle.std.specs.Prelude.{◌==◌, ◌||◌, find}
use Rattle.std.specs.List.{Contains}
use Rattle.std.proofs.lemmas.Bool.{eqb-true}
use Rattle.ls_arming.specs.Numbers.{contains}
use Rattle.ls_standing.proofs.ContainsLemmas.{at_first, behind_first}
use Rattle.ls_turn.specs.declared.session.Opened.{Opened}
use Rattle.ls_turn.specs.Agreeing.{users_in}

-- the entry of a user, where it has one
abbrev pub entry_of : List Opened → ℕ → Option Opened
entry_of opened user = find (λ o. o.user == user) opened

module _ (user : ℕ) where
  -- it is one of the entries, and the user's
  pub entry_found : (opened : List Opened) (o : Opened) → entry_of opened user ≡ Some o → Contains opened o × (o.user ≡ user)
  entry_found [] o found = absurd (cc)
  entry_found (y ∷ opened) o found = by (y.user == user) refl found (entry_found opened o)
    where
      same : ◌≡◌ {A = Option Opened} (Some y) (Some o) → y ≡ o
      same e = cc

      by : (b : Bool) → (y.user == user) ≡ b → cond b (Some y) (entry_of opened user) ≡ Some o → (entry_of opened user ≡ Some o → Contains opened o × (o.user ≡ user)) → Contains (y ∷ opened) o × (o.user ≡ user)
      by true is hit later = (
        subst (λ (z : Opened). Contains (y ∷ opened) z) (same hit) (at_first y opened),
        subst (λ (z : Opened). z.user ≡ user) (same hit) (eqb-true y.user user is),
      )
      by false is miss later = let l = later miss in (behind_first y opened o l.0, l.1)

  -- the user is opened exactly where it has one
  pub opened_there : (opened : List Opened) (o : Opened) → entry_of opened user ≡ Some o → contains (users_in opened) user ≡ true
  opened_there [] o e = absurd (cc)
  opened_there (y ∷ opened) o e = by (y.user == user) e (opened_there opened o)
    where
      by : (b : Bool) → cond b (Some y) (entry_of opened user) ≡ Some o → (entry_of opened user ≡ Some o → contains (users_in opened) user ≡ true) → (b || contains (users_in opened) user) ≡ true
      by true e later = refl
      by false e later = later e

  pub opened_not : (opened : List Opened) → entry_of opened user ≡ None → contains (users_in opened) user ≡ false
  opened_not [] e = refl
  opened_not (y ∷ opened) e = by (y.user == user) e (opened_not opened)
    where
      by : (b : Bool) → cond b (Some y) (entry_of opened user) ≡ None → (entry_of opened user ≡ None → contains (users_in opened) user ≡ false) → (b || contains (users_in opened) user) ≡ false
      by true e later = absurd (cc)
      by false e later = later e
