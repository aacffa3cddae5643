-- Rows and users in pairs.
use Rattle.std.proofs.Common.{◌≡◌, ◌≢◌, ◌⊎◌, inl, inr, ◌<◌, ℕ, Bool, true, false, cond, List, [], ◌∷◌, ◌++◌, Some, refl, sym, ◌∙◌, ap, subst, arith, not, Option}
use Rattle.std.specs.Prelude.{◌==◌, nat_lt, filter, unwrap_or}
use Rattle.std.specs.List.{AllZip, Contains}
use Rattle.std.proofs.lemmas.Bool.{lt-ltb, le-ltb, eq-eqb, ne_eqb, cases_order, eqb-true, eqb-false}
use Rattle.ls_record.specs.declared.row.UserRow.{UserRow}
use Rattle.ls_record.specs.Edits.{below, above}
use Rattle.ls_record.specs.Rows.{Pairs, IsBefore, has}
use Rattle.ls_standing.proofs.ContainsLemmas.{none_in, at_first, behind_first, first_or_behind}
use Rattle.ls_standing.proofs.PairLemmas.{each_in}
use Rattle.ls_vault.specs.declared.user.User.{User}
use Rattle.ls_vault.specs.Users.{changed, with_user, user_of, without_user}

-- ---- a row put

module _ (R : UserRow → User → Type 0) (numbers : (row : UserRow) (u : User) → R row u → row.user ≡ u.number) (k : ℕ) where
  all_above : (rows : List UserRow) → ((r : UserRow) → Contains rows r → k < r.user) → (below rows k ≡ []) × (above rows k ≡ rows)
  all_above [] more = (refl, refl)
  all_above (x ∷ rows) more =
      let rest = all_above rows (λ r has. more r (behind_first x rows r has)) in
      let less = more x (at_first x rows) in (
        ap (λ (b : Bool). cond b (x ∷ below rows k) (below rows k)) (le-ltb x.user k (omega (arith, less))) ∙ rest.0,
        ap (λ (b : Bool). cond b (x ∷ above rows k) (above rows k)) (lt-ltb k x.user less) ∙ ap (λ (l : List UserRow). x ∷ l) rest.1,
      )

  later_than : (x : UserRow) (rows : List UserRow) → Pairs IsBefore (x ∷ rows) → (r : UserRow) → Contains rows r → x.user < r.user
  later_than x rows pairs r has = (each_in (IsBefore x) rows r pairs.0 has).user

  module _ (row : UserRow) (change : User → User) where
    -- the row of a user who has one
    pub put_over : (rows : List UserRow) (users : List User) → AllZip R rows users → Pairs IsBefore rows
        → (old : UserRow) → Contains rows old → old.user ≡ k → ((v : User) → user_of users k ≡ Some v → R old v → R row (change v))
        → AllZip R (below rows k ++ row ∷ above rows k) (changed users k change)
    put_over [] users all pairs old has is new = absurd (none_in old has)
    put_over (x ∷ rows) [] all pairs old has is new = absurd all
    put_over (x ∷ rows) (v ∷ users) all pairs old has is new =
        by (cases_order x.user k) (first_or_behind x rows old has) (λ other h. put_over rows users all.1 pairs.1 old h is (λ u found. new u (ap (λ (b : Bool). cond b (Some v) (user_of users k)) (ne_eqb v.number k other) ∙ found)))
      where
        Goal : Bool → Bool → Bool → Type 0
        Goal a b c = AllZip R (cond a (x ∷ below rows k) (below rows k) ++ row ∷ cond b (x ∷ above rows k) (above rows k)) (cond c (change v ∷ users) (v ∷ changed users k change))

        same : x.user ≡ v.number
        same = numbers x v all.0

        to_goal : (a b c : Bool) → nat_lt x.user k ≡ a → nat_lt k x.user ≡ b → (v.number == k) ≡ c → Goal a b c → Goal (nat_lt x.user k) (nat_lt k x.user) (v.number == k)
        to_goal a b c p q r g = subst (λ (t : Bool). Goal (nat_lt x.user k) (nat_lt k x.user) t) (sym r) (subst (λ (t : Bool). Goal (nat_lt x.user k) t c) (sym q) (subst (λ (t : Bool). Goal t b c) (sym p) g))

        by : (x.user ≡ k) ⊎ ((x.user < k) ⊎ (k < x.user)) → (x ≡ old) ⊎ Contains rows old
            → (v.number ≢ k → Contains rows old → AllZip R (below rows k ++ row ∷ above rows k) (changed users k change)) → Goal (nat_lt x.user k) (nat_lt k x.user) (v.number == k)
        by (inl e) (inl first) later =
            let rest = all_above rows (λ r h. let less = later_than x rows pairs r h in omega (arith, less, e)) in
            to_goal false false true (le-ltb x.user k (omega (arith, e))) (le-ltb k x.user (omega (arith, e))) (eq-eqb v.number k (sym same ∙ e))
            (subst (λ (l : List UserRow). AllZip R (l ++ row ∷ above rows k) (change v ∷ users)) (sym rest.0)
            (subst (λ (l : List UserRow). AllZip R (row ∷ l) (change v ∷ users)) (sym rest.1) (new v (ap (λ (b : Bool). cond b (Some v) (user_of users k)) (eq-eqb v.number k (sym same ∙ e))) (subst (λ (z : UserRow). R z v) first all.0), all.1)))
        by (inl e) (inr h) later = let less = later_than x rows pairs old h in let none : ⊥ = omega (arith, less, e, is) in absurd none
        by (inr (inl less)) (inl first) later = let at = ap (λ (z : UserRow). z.user) first in let none : ⊥ = omega (arith, less, at, is) in absurd none
        by (inr (inl less)) (inr h) later =
            to_goal true false false (lt-ltb x.user k less) (le-ltb k x.user (omega (arith, less))) (ne_eqb v.number k (λ e. omega (arith, less, same, e))) (all.0, later (λ e. omega (arith, less, same, e)) h)
        by (inr (inr more)) (inl first) later = let at = ap (λ (z : UserRow). z.user) first in let none : ⊥ = omega (arith, more, at, is) in absurd none
        by (inr (inr more)) (inr h) later = let less = later_than x rows pairs old h in let none : ⊥ = omega (arith, more, less, is) in absurd none

  module _ (row : UserRow) (u : User) (new : R row u) (number : u.number ≡ k) where
    -- the row of a user who has none
    pub put_new : (rows : List UserRow) (users : List User) → AllZip R rows users → Pairs IsBefore rows
        → ((r : UserRow) → Contains rows r → r.user ≢ k) → AllZip R (below rows k ++ row ∷ above rows k) (with_user users u)
    put_new [] [] all pairs none = (new, tt)
    put_new [] (v ∷ users) all pairs none = absurd all
    put_new (x ∷ rows) [] all pairs none = absurd all
    put_new (x ∷ rows) (v ∷ users) all pairs none =
        by (cases_order x.user k) (put_new rows users all.1 pairs.1 (λ r has. none r (behind_first x rows r has)))
      where
        Goal : Bool → Bool → Bool → Type 0
        Goal a b c = AllZip R (cond a (x ∷ below rows k) (below rows k) ++ row ∷ cond b (x ∷ above rows k) (above rows k)) (cond c (v ∷ with_user users u) (u ∷ v ∷ users))

        same : x.user ≡ v.number
        same = numbers x v all.0

        to_goal : (a b c : Bool) → nat_lt x.user k ≡ a → nat_lt k x.user ≡ b → nat_lt v.number u.number ≡ c → Goal a b c → Goal (nat_lt x.user k) (nat_lt k x.user) (nat_lt v.number u.number)
        to_goal a b c p q r g = subst (λ (t : Bool). Goal (nat_lt x.user k) (nat_lt k x.user) t) (sym r) (subst (λ (t : Bool). Goal (nat_lt x.user k) t c) (sym q) (subst (λ (t : Bool). Goal t b c) (sym p) g))

        by : (x.user ≡ k) ⊎ ((x.user < k) ⊎ (k < x.user)) → AllZip R (below rows k ++ row ∷ above rows k) (with_user users u) → Goal (nat_lt x.user k) (nat_lt k x.user) (nat_lt v.number u.number)
        by (inl e) later = absurd (none x (at_first x rows) e)
        by (inr (inl less)) later =
            to_goal true false true (lt-ltb x.user k less) (le-ltb k x.user (omega (arith, less))) (lt-ltb v.number u.number (omega (arith, less, same, number))) (all.0, later)
        by (inr (inr more)) later =
            let rest = all_above rows (λ r has. let before = later_than x rows pairs r has in omega (arith, before, more)) in
            to_goal false true false (le-ltb x.user k (omega (arith, more))) (lt-ltb k x.user more) (le-ltb v.number u.number (omega (arith, more, same, number)))
            (subst (λ (l : List UserRow). AllZip R (l ++ row ∷ x ∷ above rows k) (u ∷ v ∷ users)) (sym rest.0)
            (subst (λ (l : List UserRow). AllZip R (row ∷ x ∷ l) (u ∷ v ∷ users)) (sym rest.1) (new, (all.0, all.1))))

-- ---- a row dropped

pub zip_without : (R S : UserRow → User → Type 0) (numbers : (row : UserRow) (u : User) → R row u → row.user ≡ u.number) (k : ℕ)
    → ((row : UserRow) (u : User) → row.user ≢ k → R row u → S row u) → (rows : List UserRow) (users : List User) → AllZip R rows users
    → AllZip S (filter (λ r. not (r.user == k)) rows) (without_user users k)
zip_without R S numbers k to [] [] all = tt
zip_without R S numbers k to [] (u ∷ users) all = absurd all
zip_without R S numbers k to (x ∷ rows) [] all = absurd all
zip_without R S numbers k to (x ∷ rows) (u ∷ users) all = by (x.user == k) refl (zip_without R S numbers k to rows users all.1)
  where
    same : (u.number == k) ≡ (x.user == k)
    same = ap (λ (n : ℕ). n == k) (sym (numbers x u all.0))

    Goal : Bool → Bool → Type 0
    Goal a b = AllZip S (cond (not a) (x ∷ filter (λ r. not (r.user == k)) rows) (filter (λ r. not (r.user == k)) rows)) (cond (not b) (u ∷ without_user users k) (without_user users k))

    by : (b : Bool) → (x.user == k) ≡ b → AllZip S (filter (λ r. not (r.user == k)) rows) (without_user users k) → Goal (x.user == k) (u.number == k)
    by true is later = subst (λ (t : Bool). Goal (x.user == k) t) (sym (same ∙ is)) (subst (λ (t : Bool). Goal t true) (sym is) later)
    by false is later = subst (λ (t : Bool). Goal (x.user == k) t) (sym (same ∙ is)) (subst (λ (t : Bool). Goal t false) (sym is) (to x u (eqb-false x.user k is) all.0, later))

-- ---- the user of a row

pub zip_found : (R S : UserRow → User → Type 0) (numbers : (row : UserRow) (u : User) → R row u → row.user ≡ u.number) (rows : List UserRow) (users : List User)
    → AllZip R rows users → Pairs IsBefore rows
    → ((row : UserRow) (u : User) → Contains rows row → user_of users row.user ≡ Some u → R row u → S row u) → AllZip S rows users
zip_found R S numbers [] [] all pairs to = tt
zip_found R S numbers [] (u ∷ users) all pairs to = absurd all
zip_found R S numbers (x ∷ rows) [] all pairs to = absurd all
zip_found R S numbers (x ∷ rows) (u ∷ users) all pairs to = (
  to x u (at_first x rows) (ap (λ (b : Bool). cond b (Some u) (user_of users x.user)) (eq-eqb u.number x.user (sym same))) all.0,
  zip_found R S numbers rows users all.1 pairs.1 (λ row v h found. to row v (behind_first x rows row h)
      (ap (λ (b : Bool). cond b (Some u) (user_of users row.user)) (ne_eqb u.number row.user (λ e. let less = (each_in (IsBefore x) rows row pairs.0 h).user in omega (arith, less, e, same))) ∙ found)),
)
  where
    same : x.user ≡ u.number
    same = numbers x u all.0

-- the user of a row
pub user_there : (R : UserRow → User → Type 0) (numbers : (row : UserRow) (u : User) → R row u → row.user ≡ u.number) (rows : List UserRow) (users : List User)
    → AllZip R rows users → (row : UserRow) → Contains rows row → (u : User) × (user_of users row.user ≡ Some u)
user_there R numbers [] users all row has = absurd (none_in row has)
user_there R numbers (x ∷ rows) [] all row has = absurd all
user_there R numbers (x ∷ rows) (u ∷ users) all row has = by (u.number == row.user) refl (first_or_behind x rows row has) (λ h. user_there R numbers rows users all.1 row h)
  where
    by : (b : Bool) → (u.number == row.user) ≡ b → (x ≡ row) ⊎ Contains rows row → (Contains rows row → (v : User) × (user_of users row.user ≡ Some v))
        → (v : User) × (user_of (u ∷ users) row.user ≡ Some v)
    by true e at later = (u, ap (λ (t : Bool). cond t (Some u) (user_of users row.user)) e)
    by false e (inl is) later =
        let bad : true ≡ false = sym (eq-eqb u.number row.user (sym (numbers x u all.0) ∙ ap (λ (z : UserRow). z.user) is)) ∙ e in absurd (cc)
    by false e (inr h) later = let l = later h in (l.0, ap (λ (t : Bool). cond t (Some u) (user_of users row.user)) e ∙ l.1)

pub held_there : (R : UserRow → User → Type 0) (numbers : (row : UserRow) (u : User) → R row u → row.user ≡ u.number) (rows : List UserRow) (users : List User)
    → AllZip R rows users → Pairs IsBefore rows → (row : UserRow) → Contains rows row → (u : User) → user_of users row.user ≡ Some u → R row u
held_there R numbers [] users all pairs row has u found = absurd (none_in row has)
held_there R numbers (x ∷ rows) [] all pairs row has u found = absurd all
held_there R numbers (x ∷ rows) (y ∷ users) all pairs row has u found =
    by (y.number == row.user) refl (first_or_behind x rows row has) found (λ h later. held_there R numbers rows users all.1 pairs.1 row h u later)
  where
    by : (b : Bool) → (y.number == row.user) ≡ b → (x ≡ row) ⊎ Contains rows row → cond b (Some y) (user_of users row.user) ≡ Some u
        → (Contains rows row → user_of users row.user ≡ Some u → R row u) → R row u
    by true e (inl is) f later = subst (λ (z : User). R row z) (ap (λ (o : Option User). unwrap_or o y) f) (subst (λ (z : UserRow). R z y) is all.0)
    by true e (inr h) f later =
        let less = (each_in (IsBefore x) rows row pairs.0 h).user in
        let same = numbers x y all.0 in
        let is = eqb-true y.number row.user e in
        let none : ⊥ = omega (arith, less, same, is) in absurd none
    by false e (inl is) f later =
        let bad : true ≡ false = sym (eq-eqb y.number row.user (sym (numbers x y all.0) ∙ ap (λ (z : UserRow). z.user) is)) ∙ e in absurd (cc)
    by false e (inr h) f later = later h f
