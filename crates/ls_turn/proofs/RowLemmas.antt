-- Rows and users side by side.
use Rattle.std.proofs.Common.{◌≡◌, ◌⊎◌, inl, inr, ◌≤◌, ℕ, Bool, true, false, cond, List, [], ◌∷◌, map, length, Option, None, Some, refl, sym, ◌∙◌, ap, subst, arith}
use Rattle.std.specs.Prelude.{◌==◌, find}
use Rattle.std.specs.List.{AllZip, Contains}
use Rattle.std.proofs.lemmas.Bool.{eqb-true, leb-true}
use Rattle.ls_board.specs.declared.world.World.{World}
use Rattle.ls_record.specs.declared.row.UserRow.{UserRow}
use Rattle.ls_record.specs.Rows.{Rec, IsRow, IsRecord, IsBefore, is_token_count}
use Rattle.ls_standing.specs.Named.{held_of_row}
use Rattle.ls_standing.specs.Standing.{HoldsUser}
use Rattle.ls_standing.proofs.ContainsLemmas.{at_first, behind_first}
use Rattle.ls_standing.proofs.PairLemmas.{each_in, pair_cases}
use Rattle.ls_vault.specs.declared.state.State.{State}
use Rattle.ls_vault.specs.declared.user.User.{User}
use Rattle.ls_vault.specs.Users.{user_of}
use Rattle.ls_turn.specs.declared.session.Session.{Session}
use Rattle.ls_turn.specs.Agreeing.{Agrees}
use Rattle.ls_turn.specs.Refusing.{row_of}

module _ (R : UserRow → User → Type 0) (numbers : (row : UserRow) (u : User) → R row u → row.user ≡ u.number) where
  -- the numbers of the rows are those of the users
  pub numbers_same : (rows : List UserRow) (users : List User) → AllZip R rows users → map (λ r. r.user) rows ≡ map (λ u. u.number) users
  numbers_same [] [] all = refl
  numbers_same [] (u ∷ users) all = absurd all
  numbers_same (x ∷ rows) [] all = absurd all
  numbers_same (x ∷ rows) (u ∷ users) all =
      ap (λ (n : ℕ). n ∷ map (λ r. r.user) rows) (numbers x u all.0)
      ∙ ap (λ (l : List ℕ). u.number ∷ l) (numbers_same rows users all.1)

  module _ (user : ℕ) where
    tested : (x : UserRow) (u : User) → R x u → (u.number == user) ≡ (x.user == user)
    tested x u r = ap (λ (n : ℕ). n == user) (sym (numbers x u r))

    -- the row of a number is that of the user with this number
    pub found_user : (rows : List UserRow) (users : List User) → AllZip R rows users → (row : UserRow) → find (λ r. r.user == user) rows ≡ Some row
        → (u : User) × (user_of users user ≡ Some u) × R row u
    found_user [] users all row found = absurd (cc)
    found_user (x ∷ rows) [] all row found = absurd all
    found_user (x ∷ rows) (u ∷ users) all row found = by (x.user == user) refl found (found_user rows users all.1 row)
      where
        same_row : ◌≡◌ {A = Option UserRow} (Some x) (Some row) → x ≡ row
        same_row e = cc

        by : (b : Bool) → (x.user == user) ≡ b → cond b (Some x) (find (λ r. r.user == user) rows) ≡ Some row
            → (find (λ r. r.user == user) rows ≡ Some row → (v : User) × (user_of users user ≡ Some v) × R row v)
            → (v : User) × (user_of (u ∷ users) user ≡ Some v) × R row v
        by true is hit later = (u, ap (λ (b : Bool). cond b (Some u) (user_of users user)) (tested x u all.0 ∙ is), subst (λ (r : UserRow). R r u) (same_row hit) all.0)
        by false is miss later =
            let rest = later miss in
            (rest.0, ap (λ (b : Bool). cond b (Some u) (user_of users user)) (tested x u all.0 ∙ is) ∙ rest.1, rest.2)

    -- without a row there is no user
    pub no_user : (rows : List UserRow) (users : List User) → AllZip R rows users → find (λ r. r.user == user) rows ≡ None → user_of users user ≡ None
    no_user [] [] all none = refl
    no_user [] (u ∷ users) all none = absurd all
    no_user (x ∷ rows) [] all none = absurd all
    no_user (x ∷ rows) (u ∷ users) all none = by (x.user == user) refl none (no_user rows users all.1)
      where
        by : (b : Bool) → (x.user == user) ≡ b → cond b (Some x) (find (λ r. r.user == user) rows) ≡ None
            → (find (λ r. r.user == user) rows ≡ None → user_of users user ≡ None) → user_of (u ∷ users) user ≡ None
        by true is hit later = absurd (cc)
        by false is miss later = ap (λ (b : Bool). cond b (Some u) (user_of users user)) (tested x u all.0 ∙ is) ∙ later miss

-- ---- the row of a user

-- it is one of the rows, and the user's
pub row_found : (user : ℕ) (rows : List UserRow) (row : UserRow) → find (λ r. r.user == user) rows ≡ Some row → Contains rows row × (row.user ≡ user)
row_found user [] row found = absurd (cc)
row_found user (x ∷ rows) row found = by (x.user == user) refl found (row_found user rows row)
  where
    same_row : ◌≡◌ {A = Option UserRow} (Some x) (Some row) → x ≡ row
    same_row e = cc

    by : (b : Bool) → (x.user == user) ≡ b → cond b (Some x) (find (λ r. r.user == user) rows) ≡ Some row
        → (find (λ r. r.user == user) rows ≡ Some row → Contains rows row × (row.user ≡ user))
        → Contains (x ∷ rows) row × (row.user ≡ user)
    by true is hit later = (
      subst (λ (r : UserRow). Contains (x ∷ rows) r) (same_row hit) (at_first x rows),
      subst (λ (r : UserRow). r.user ≡ user) (same_row hit) (eqb-true x.user user is),
    )
    by false is miss later = let rest = later miss in (behind_first x rows row rest.0, rest.1)

-- no other one is of its user
pub one_row : (r : Rec) → IsRecord r → (row : UserRow) → Contains r.users row → (other : UserRow) → Contains r.users other → other.user ≡ row.user → other ≡ row
one_row r is row here other there same = by (pair_cases IsBefore r.users is.pairs other row there here)
  where
    by : (other ≡ row) ⊎ (IsBefore other row ⊎ IsBefore row other) → other ≡ row
    by (inl e) = e
    by (inr (inl before)) = let less = before.user in let none : ⊥ = omega (arith, less, same) in absurd none
    by (inr (inr before)) = let less = before.user in let none : ⊥ = omega (arith, less, same) in absurd none

few_count : (escrow : Bool) (n : ℕ) → is_token_count escrow n ≡ true → n ≤ 8
few_count true n is = leb-true n 8 is
few_count false n is = let none = eqb-true n 0 is in omega (arith, none)

-- it has at most 8 tokens
pub few_in : (row : UserRow) → IsRow row → length row.tokens ≤ 8
few_in row is = few_count row.escrow (length row.tokens) is.few

pub few_tokens : (r : Rec) → IsRecord r → (user : ℕ) (row : UserRow) → row_of r user ≡ Some row → length row.tokens ≤ 8
few_tokens r rules user row found = few_in row (each_in IsRow r.users row rules.rows (row_found user r.users row found).0)

-- ---- of a session that agrees

module _ (w : World) (x : Session) (s : State) (agrees : Agrees w x s) where
  abbrev IsHeld : UserRow → User → Type 0
  IsHeld row u = HoldsUser row (held_of_row w x.settings.settled.rec.armed row) u

  its_number : (row : UserRow) (u : User) → IsHeld row u → row.user ≡ u.number
  its_number row u h = h.says.number

  pub users_are : map (λ r. r.user) x.settings.settled.rec.users ≡ map (λ u. u.number) s.vault.users
  users_are = numbers_same IsHeld its_number x.settings.settled.rec.users s.vault.users agrees.stands.stands.holds.users

  pub user_there : (user : ℕ) (row : UserRow) → row_of x.settings.settled.rec user ≡ Some row → (u : User) × (user_of s.vault.users user ≡ Some u) × IsHeld row u
  user_there user row found = found_user IsHeld its_number user x.settings.settled.rec.users s.vault.users agrees.stands.stands.holds.users row found

  pub nobody_there : (user : ℕ) → row_of x.settings.settled.rec user ≡ None → user_of s.vault.users user ≡ None
  nobody_there user none = no_user IsHeld its_number user x.settings.settled.rec.users s.vault.users agrees.stands.stands.holds.users none
