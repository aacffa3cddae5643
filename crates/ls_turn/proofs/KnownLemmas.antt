-- What a session knows of a user is what the machine has of it.
use Rattle.std.proofs.Common.{◌≡◌, ⊎_elim, ℕ, suc, Bool, true, false, cond, not, ◌||◌, List, [], ◌∷◌, map, length, Some, refl, sym, ◌∙◌, ap, subst}
use Rattle.std.specs.Prelude.{◌==◌, ◌&&◌, find, filter, is_some}
use Rattle.std.specs.List.{Contains, list_any}
use Rattle.ls_arming.specs.Numbers.{contains, without_number}
use Rattle.ls_board.specs.declared.world.World.{World}
use Rattle.ls_record.specs.declared.row.UserRow.{UserRow}
use Rattle.ls_standing.specs.Standing.{SaysUser}
use Rattle.ls_standing.proofs.ContainsLemmas.{at_first, behind_first, first_or_behind}
use Rattle.ls_vault.specs.declared.session.SessionState.{SessionState}
use Rattle.ls_vault.specs.declared.state.State.{State}
use Rattle.ls_vault.specs.declared.token.PendingToken.{PendingToken}
use Rattle.ls_vault.specs.declared.user.User.{User}
use Rattle.ls_vault.specs.Refusals.{is_opened}
use Rattle.ls_vault.specs.Tokens.{pending_of, token_of, is_pending}
use Rattle.ls_turn.specs.declared.session.Session.{Session}
use Rattle.ls_turn.specs.declared.session.Opened.{Opened}
use Rattle.ls_turn.specs.Agreeing.{Agrees, users_in, pending_token}
use Rattle.ls_turn.specs.Refusing.{is_open, is_waiting, pending_for}

-- ---- tests of a list that was mapped

module _ {X Y : Type 0} (f : X → Y) (p : Y → Bool) where
  pub any_map : (xs : List X) → list_any p (map f xs) ≡ list_any (λ x. p (f x)) xs
  any_map [] = refl
  any_map (x ∷ xs) = ap (λ (b : Bool). p (f x) || b) (any_map xs)

  pub filter_map_same : (xs : List X) → filter p (map f xs) ≡ map f (filter (λ x. p (f x)) xs)
  filter_map_same [] = refl
  filter_map_same (x ∷ xs) = by (p (f x)) (filter_map_same xs)
    where
      by : (b : Bool) → filter p (map f xs) ≡ map f (filter (λ x. p (f x)) xs)
          → cond b (f x ∷ filter p (map f xs)) (filter p (map f xs)) ≡ map f (cond b (x ∷ filter (λ x. p (f x)) xs) (filter (λ x. p (f x)) xs))
      by true rest = ap (λ (l : List Y). f x ∷ l) rest
      by false rest = rest

length_map_same : {X Y : Type 0} (f : X → Y) (xs : List X) → length (map f xs) ≡ length xs
length_map_same f [] = refl
length_map_same f (x ∷ xs) = ap (λ (n : ℕ). suc n) (length_map_same f xs)

any_found : {X : Type 0} (p : X → Bool) (xs : List X) → list_any p xs ≡ is_some (find p xs)
any_found p [] = refl
any_found {X = X} p (x ∷ xs) = by (p x) (any_found p xs)
  where
    by : (b : Bool) → list_any p xs ≡ is_some (find p xs) → (b || list_any p xs) ≡ is_some (cond b (Some x) (find p xs))
    by true rest = refl
    by false rest = rest

-- whether a user is among the opened ones
pub open_is : (opened : List Opened) (user : ℕ) → list_any (λ o. o.user == user) opened ≡ contains (users_in opened) user
open_is opened user = sym (any_map (λ o. o.user) (λ m. m == user) opened)

-- ---- opened users without one

abbrev pub is_another : ℕ → Opened → Bool
is_another user o = not (o.user == user)

pub users_without : (user : ℕ) (opened : List Opened) → users_in (filter (is_another user) opened) ≡ without_number (users_in opened) user
users_without user opened = sym (filter_map_same (λ o. o.user) (λ m. not (m == user)) opened)

pub in_filtered : (p : Opened → Bool) (opened : List Opened) (o : Opened) → Contains (filter p opened) o → Contains opened o
in_filtered p [] o has = has
in_filtered p (x ∷ opened) o has = by (p x) has (in_filtered p opened o)
  where
    by : (b : Bool) → Contains (cond b (x ∷ filter p opened) (filter p opened)) o → (Contains (filter p opened) o → Contains opened o) → Contains (x ∷ opened) o
    by true has later = ⊎_elim (λ (e : x ≡ o). subst (λ (y : Opened). Contains (x ∷ opened) y) e (at_first x opened)) (λ (rest : Contains (filter p opened) o). behind_first x opened o (later rest)) (first_or_behind x (filter p opened) o has)
    by false has later = behind_first x opened o (later has)

-- ---- of a session that agrees

module _ (w : World) (x : Session) (s : State) (agrees : Agrees w x s) (user : ℕ) where
  pub opened_is : is_opened s user ≡ is_open x user
  opened_is = sym (ap (λ (t : SessionState). contains t.opened user) agrees.session)

  pub pending_count_is : length (pending_of s.session.pending user) ≡ length (pending_for x user)
  pending_count_is =
      sym (ap (λ (t : SessionState). length (pending_of t.pending user)) agrees.session)
      ∙ (ap (λ (l : List PendingToken). length l) (filter_map_same pending_token (λ p. p.user == user) x.pending.items)
      ∙ length_map_same pending_token (filter (λ p. p.user == user) x.pending.items))

  pub pending_is : (id : ℕ) → is_pending s user id ≡ is_waiting x user id
  pending_is id =
      sym (ap (λ (t : SessionState). list_any (λ p. p.user == user && p.id == id) t.pending) agrees.session)
      ∙ any_map pending_token (λ p. p.user == user && p.id == id) x.pending.items

-- the ids of a row are those of the user's active tokens
pub active_is : (row : UserRow) (u : User) → SaysUser row u → (id : ℕ) → is_some (token_of u.tokens id) ≡ contains row.tokens id
active_is row u says id =
    sym (any_found (λ t. t.id == id) u.tokens)
    ∙ (sym (any_map (λ t. t.id) (λ m. m == id) u.tokens)
    ∙ sym (ap (λ (l : List ℕ). contains l id) says.tokens))

pub active_count_is : (row : UserRow) (u : User) → SaysUser row u → length u.tokens ≡ length row.tokens
active_count_is row u says =
    sym (length_map_same (λ t. t.id) u.tokens) ∙ sym (ap (λ (l : List ℕ). length l) says.tokens)
