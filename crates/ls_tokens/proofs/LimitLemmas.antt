-- What refuses a token, and which ids are taken: the session knows it as the machine does.
use Rattle.std.proofs.Common.{◌≡◌, ◌≢◌, ◌<◌, ◌+◌, ◌∷◌, ◌++◌, ℕ, Bool, true, false, not, List, [], map, length, Option, None, Some, refl, sym, ◌∙◌, ap, subst, arith}
use Rattle.std.specs.Prelude.{◌==◌, nat_le, flat_map, if◌then◌else◌}
use Rattle.std.specs.List.{AllZip, Contains}
use Rattle.std.specs.Option.{option_map_or}
use Rattle.std.proofs.lemmas.Bool.{eq-eqb, leb-false}
use Rattle.std.proofs.lemmas.List.Concat.{flat_map-cons}
use Rattle.std.proofs.lemmas.List.Elements.{Contains-append_left, Contains-append_right}
use Rattle.ls_arming.specs.Numbers.{contains}
use Rattle.ls_board.specs.declared.world.World.{World}
use Rattle.ls_record.specs.declared.row.UserRow.{UserRow}
use Rattle.ls_record.specs.Rows.{has}
use Rattle.ls_record.proofs.TestLemmas.{has_not}
use Rattle.ls_script.specs.declared.reply.Refusal.{Refusal}
use Rattle.ls_script.specs.declared.reply.Refusal.TheVariants.{NoUser, NoEscrow, TokenLimit}
use Rattle.ls_standing.specs.Named.{held_of_row}
use Rattle.ls_standing.specs.Standing.{HoldsUser}
use Rattle.ls_standing.proofs.ContainsLemmas.{any_contained, in_flat, in_map}
use Rattle.ls_standing.proofs.PairLemmas.{all_from}
use Rattle.ls_vault.specs.declared.session.SessionState.{SessionState}
use Rattle.ls_vault.specs.declared.state.State.{State}
use Rattle.ls_vault.specs.declared.user.User.{User}
use Rattle.ls_vault.specs.Limits.{most_tokens}
use Rattle.ls_vault.specs.Refusals as machine
use Rattle.ls_vault.specs.Tokens.{pending_of, token_ids}
use Rattle.ls_vault.specs.Users.{user_of}
use Rattle.ls_turn.specs.declared.session.Session.{Session}
use Rattle.ls_turn.specs.declared.session.Pending.{Pending}
use Rattle.ls_turn.specs.Agreeing.{Agrees, pending_token}
use Rattle.ls_turn.specs.Refusing.{row_of, of_row, of_user, token_add_refusal, pending_for}
use Rattle.ls_turn.specs.Waiting.{those_of}
use Rattle.ls_turn.proofs.KnownLemmas.{active_count_is, pending_count_is}
use Rattle.ls_turn.proofs.RowLemmas.{row_found, user_there, nobody_there}
use Rattle.ls_tokens.specs.Adding.{taken_ids}

-- ---- what refuses it

-- by whether the user may have tokens, and how many are active and pending
abbrev limit_by : Bool → ℕ → ℕ → Option Refusal
limit_by escrow active pending =
    if not escrow then Some NoEscrow
    else if nat_le most_tokens (active + pending) then Some TokenLimit
    else None

-- what refuses it by the machine
abbrev pub machine_refusal : State → ℕ → Option Refusal
machine_refusal s user = machine.of_user (user_of s.vault.users user) (machine.token_add_refusal s user)

module _ (w : World) (x : Session) (s : State) (agrees : Agrees w x s) (user : ℕ) where
  pub refused_alike : machine_refusal s user ≡ of_user x user (token_add_refusal x)
  refused_alike = by (row_of x.settings.settled.rec user) refl
    where
      by : (found : Option UserRow) → row_of x.settings.settled.rec user ≡ found → machine_refusal s user ≡ of_user x user (token_add_refusal x)
      by None is =
          ap (λ (f : Option User). machine.of_user f (machine.token_add_refusal s user)) (nobody_there w x s agrees user is)
          ∙ sym (ap (λ (f : Option UserRow). of_row f (token_add_refusal x)) is)
      by (Some row) is =
          let there = user_there w x s agrees user row is in
          let u = there.0 in
          let says = there.2.says in
          ap (λ (f : Option User). machine.of_user f (machine.token_add_refusal s user)) there.1
          ∙ (ap (λ (f : Option User). limit_by u.escrow (length (option_map_or (λ v. v.tokens) f [])) (length (pending_of s.session.pending user))) there.1
          ∙ (ap (λ (b : Bool). limit_by b (length u.tokens) (length (pending_of s.session.pending user))) (sym says.escrow)
          ∙ (ap (λ (n : ℕ). limit_by row.escrow n (length (pending_of s.session.pending user))) (active_count_is row u says)
          ∙ (ap (λ (n : ℕ). limit_by row.escrow (length row.tokens) n) (pending_count_is w x s agrees user)
          ∙ (ap (λ (n : ℕ). limit_by row.escrow (length row.tokens) (length (pending_for x n))) (sym (row_found user x.settings.settled.rec.users row is).1)
          ∙ sym (ap (λ (f : Option UserRow). of_row f (token_add_refusal x)) is))))))

-- ---- where nothing refuses it

below_limit : (escrow : Bool) (active pending : ℕ) → limit_by escrow active pending ≡ None → (escrow ≡ true) × (active + pending < 8)
below_limit false active pending none = absurd (cc)
below_limit true active pending none = (refl, by (nat_le most_tokens (active + pending)) refl none)
  where
    by : (b : Bool) → nat_le most_tokens (active + pending) ≡ b → ◌≡◌ {A = Option Refusal} (if b then Some TokenLimit else None) None → active + pending < 8
    by true is rest = absurd (cc)
    by false is rest = leb-false 8 (active + pending) is

-- the user may have tokens, and one more may wait
pub room_for_one : (x : Session) (user : ℕ) → of_user x user (token_add_refusal x) ≡ None
    → (row : UserRow) × Contains x.settings.settled.rec.users row × (row.user ≡ user) × (row.escrow ≡ true) × (length row.tokens + length (those_of row.user x.pending.items) < 8)
room_for_one x user none = by (row_of x.settings.settled.rec user) refl
  where
    by : (found : Option UserRow) → row_of x.settings.settled.rec user ≡ found
        → (row : UserRow) × Contains x.settings.settled.rec.users row × (row.user ≡ user) × (row.escrow ≡ true) × (length row.tokens + length (those_of row.user x.pending.items) < 8)
    by None is = absurd (no_user (sym (ap (λ (f : Option UserRow). of_row f (token_add_refusal x)) is) ∙ none))
      where
        no_user : ◌≡◌ {A = Option Refusal} (Some NoUser) None → ⊥
        no_user e = cc
    by (Some row) is =
        let below = below_limit row.escrow (length row.tokens) (length (pending_for x row.user)) (sym (ap (λ (f : Option UserRow). of_row f (token_add_refusal x)) is) ∙ none) in
        let found = row_found user x.settings.settled.rec.users row is in
        (row, found.0, found.1, below.0, below.1)

-- ---- the ids that are taken

module _ (R : UserRow → User → Type 0) (ids : (row : UserRow) (u : User) → R row u → row.tokens ≡ map (λ t. t.id) u.tokens) where
  active_ids : (rows : List UserRow) (users : List User) → AllZip R rows users → flat_map (λ u. map (λ t. t.id) u.tokens) users ≡ flat_map (λ r. r.tokens) rows
  active_ids [] [] all = refl
  active_ids [] (u ∷ users) all = absurd all
  active_ids (r ∷ rows) [] all = absurd all
  active_ids (r ∷ rows) (u ∷ users) all =
      flat_map-cons (λ v. map (λ t. t.id) v.tokens) u users
      ∙ (ap (λ (l : List ℕ). l ++ flat_map (λ v. map (λ t. t.id) v.tokens) users) (sym (ids r u all.0))
      ∙ (ap (λ (l : List ℕ). r.tokens ++ l) (active_ids rows users all.1)
      ∙ sym (flat_map-cons (λ q. q.tokens) r rows)))

waiting_ids : (pending : List Pending) → map (λ p. p.id) (map pending_token pending) ≡ map (λ p. p.id) pending
waiting_ids [] = refl
waiting_ids (p ∷ pending) = ap (λ (l : List ℕ). p.id ∷ l) (waiting_ids pending)

pub taken_alike : (w : World) (x : Session) (s : State) → Agrees w x s → token_ids s ≡ taken_ids x
taken_alike w x s agrees =
    ap (λ (l : List ℕ). l ++ map (λ p. p.id) s.session.pending)
    (active_ids (λ row u. HoldsUser row (held_of_row w x.settings.settled.rec.armed row) u) (λ row u h. h.says.tokens) x.settings.settled.rec.users s.vault.users agrees.stands.stands.holds.users)
    ∙ ap (λ (l : List ℕ). flat_map (λ r. r.tokens) x.settings.settled.rec.users ++ l)
    (sym (ap (λ (t : SessionState). map (λ p. p.id) t.pending) agrees.session) ∙ waiting_ids x.pending.items)

-- ---- an id that isn't taken

module _ (x : Session) (id : ℕ) (free : contains (taken_ids x) id ≡ false) where
  not_taken : (n : ℕ) → Contains (taken_ids x) n → n ≢ id
  not_taken n here same = let both : true ≡ false = sym (any_contained (λ m. m == id) (taken_ids x) n here (eq-eqb n id same)) ∙ free in cc

  pub no_active : (row : UserRow) → Contains x.settings.settled.rec.users row → has row.tokens id ≡ false
  no_active row here = has_not row.tokens id (all_from (λ (t : ℕ). t ≢ id) row.tokens
      (λ t its. not_taken t (Contains-append_left (flat_map (λ r. r.tokens) x.settings.settled.rec.users) (map (λ p. p.id) x.pending.items) t
      (in_flat (λ r. r.tokens) x.settings.settled.rec.users row t here its))))

  pub none_waiting : (p : Pending) → Contains x.pending.items p → p.id ≢ id
  none_waiting p here = not_taken p.id (Contains-append_right (flat_map (λ r. r.tokens) x.settings.settled.rec.users) (map (λ p. p.id) x.pending.items) p.id
      (in_map (λ p. p.id) x.pending.items p here))
