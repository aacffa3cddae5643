-- An entry put in at its place is the entry among the others.
use Rattle.std.proofs.Common.{◌≡◌, ◌≢◌, ◌⊎◌, inl, inr, ⊎_elim, ◌+◌, ℕ, suc, Bool, true, false, cond, eqb, ltb, List, [], ◌∷◌, Option, refl, sym, ◌∙◌, ap, subst, arith}
use Rattle.std.specs.Prelude.{slice_get, IfSome, IsSomeAnd}
use Rattle.std.specs.List.{Contains, insert, prefix_len}
use Rattle.std.proofs.lemmas.Bool.{eqb-true, eqb-false}
use Rattle.ls_arming.specs.Numbers.{with_number}
use Rattle.ls_arming.proofs.InsertLemmas.{inserted_more}
use Rattle.ls_standing.proofs.ContainsLemmas.{none_in, at_first, behind_first, first_or_behind}
use Rattle.ls_turn.specs.declared.session.Opened.{Opened}
use Rattle.ls_turn.specs.Agreeing.{users_in}
use Rattle.ls_unlocking.specs.Entries.{with_entry}

get_more : (x : Opened) (xs : List Opened) (k : ℕ) → slice_get (x ∷ xs) (1 + k) ≡ slice_get xs k
get_more x xs k =
    let next : 1 + k ≡ suc k = omega arith in
    subst (λ j. slice_get (x ∷ xs) j ≡ slice_get xs k) (sym next) refl

abbrev pub smaller : List Opened → ℕ → ℕ
smaller entries n = prefix_len (λ o. ltb o.user n) entries

-- the entry at its place isn't the user's
abbrev pub IsMissing : List Opened → ℕ → ℕ → Type 0
IsMissing entries k n = IfSome (slice_get entries k) (λ o. o.user ≢ n)

abbrev pub IsThere : List Opened → ℕ → ℕ → Type 0
IsThere entries k n = IsSomeAnd (slice_get entries k) (λ o. o.user ≡ n)

module _ (one : Opened) where
  insert_cases : (o : Opened) (entries : List Opened) (b e : Bool) → eqb o.user one.user ≡ e → IsMissing (o ∷ entries) (cond b (1 + smaller entries one.user) 0) one.user
      → (IsMissing entries (smaller entries one.user) one.user → insert entries (smaller entries one.user) one ≡ with_entry entries one)
      → insert (o ∷ entries) (cond b (1 + smaller entries one.user) 0) one ≡ cond b (o ∷ with_entry entries one) (cond e (o ∷ entries) (one ∷ o ∷ entries))
  insert_cases o entries true e test missing rest =
      inserted_more o one entries (smaller entries one.user)
      ∙ ap (λ (l : List Opened). o ∷ l) (rest (subst (λ (x : Option Opened). IfSome x (λ o. o.user ≢ one.user)) (get_more o entries (smaller entries one.user)) missing))
  insert_cases o entries false true test missing rest = absurd (missing (eqb-true o.user one.user test))
  insert_cases o entries false false test missing rest = refl

  at_place : (entries : List Opened) → IsMissing entries (smaller entries one.user) one.user → insert entries (smaller entries one.user) one ≡ with_entry entries one
  at_place [] missing = refl
  at_place (o ∷ entries) missing = insert_cases o entries (ltb o.user one.user) (eqb o.user one.user) refl missing (at_place entries)

  -- put in at its place, where its user has none
  pub entry_inserted : (entries : List Opened) (k : ℕ) → k ≡ smaller entries one.user → IsMissing entries k one.user → insert entries k one ≡ with_entry entries one
  entry_inserted entries k is missing = subst (λ j. insert entries j one ≡ with_entry entries one) (sym is) (at_place entries (subst (λ j. IsMissing entries j one.user) is missing))

  there_cases : (o : Opened) (entries : List Opened) (b e : Bool) → eqb o.user one.user ≡ e → IsThere (o ∷ entries) (cond b (1 + smaller entries one.user) 0) one.user
      → (IsThere entries (smaller entries one.user) one.user → entries ≡ with_entry entries one)
      → o ∷ entries ≡ cond b (o ∷ with_entry entries one) (cond e (o ∷ entries) (one ∷ o ∷ entries))
  there_cases o entries true e test there rest =
      ap (λ (l : List Opened). o ∷ l) (rest (subst (λ (x : Option Opened). IsSomeAnd x (λ o. o.user ≡ one.user)) (get_more o entries (smaller entries one.user)) there))
  there_cases o entries false true test there rest = refl
  there_cases o entries false false test there rest = absurd (eqb-false o.user one.user test there)

  stays_at : (entries : List Opened) → IsThere entries (smaller entries one.user) one.user → entries ≡ with_entry entries one
  stays_at [] there = absurd there
  stays_at (o ∷ entries) there = there_cases o entries (ltb o.user one.user) (eqb o.user one.user) refl there (stays_at entries)

  -- where its user has one, all stay
  pub entry_there : (entries : List Opened) (k : ℕ) → k ≡ smaller entries one.user → IsThere entries k one.user → entries ≡ with_entry entries one
  entry_there entries k is there = stays_at entries (subst (λ j. IsThere entries j one.user) is there)

  -- ---- the users

  pub entry_users : (entries : List Opened) → users_in (with_entry entries one) ≡ with_number (users_in entries) one.user
  entry_users [] = refl
  entry_users (o ∷ entries) = by (ltb o.user one.user) (eqb o.user one.user) (entry_users entries)
    where
      by : (b e : Bool) → users_in (with_entry entries one) ≡ with_number (users_in entries) one.user
          → users_in (cond b (o ∷ with_entry entries one) (cond e (o ∷ entries) (one ∷ o ∷ entries)))
          ≡ cond b (o.user ∷ with_number (users_in entries) one.user) (cond e (o.user ∷ users_in entries) (one.user ∷ o.user ∷ users_in entries))
      by true e rest = ap (λ (l : List ℕ). o.user ∷ l) rest
      by false true rest = refl
      by false false rest = refl

  -- each is one of those before, or this one
  pub entry_cases : (entries : List Opened) (o : Opened) → Contains (with_entry entries one) o → Contains entries o ⊎ (one ≡ o)
  entry_cases [] o has = ⊎_elim (λ (e : one ≡ o). inr e) (λ (rest : Contains [] o). absurd (none_in o rest)) (first_or_behind one [] o has)
  entry_cases (x ∷ entries) o has = by (ltb x.user one.user) (eqb x.user one.user) has (entry_cases entries o)
    where
      Cases : Type 0
      Cases = Contains (x ∷ entries) o ⊎ (one ≡ o)

      behind : Contains entries o ⊎ (one ≡ o) → Contains (x ∷ entries) o ⊎ (one ≡ o)
      behind (inl h) = inl (behind_first x entries o h)
      behind (inr e) = inr e

      by : (b e : Bool) → Contains (cond b (x ∷ with_entry entries one) (cond e (x ∷ entries) (one ∷ x ∷ entries))) o
          → (Contains (with_entry entries one) o → Contains entries o ⊎ (one ≡ o)) → Contains (x ∷ entries) o ⊎ (one ≡ o)
      by true e has later = ⊎_elim (λ (same : x ≡ o). inl (subst (λ (y : Opened). Contains (x ∷ entries) y) same (at_first x entries))) (λ (rest : Contains (with_entry entries one) o). behind (later rest))
          (first_or_behind x (with_entry entries one) o has)
      by false true has later = inl has
      by false false has later = ⊎_elim (λ (same : one ≡ o). inr same) (λ (rest : Contains (x ∷ entries) o). inl rest) (first_or_behind one (x ∷ entries) o has)
