-- Questions about a user, as the machine answers them.
use Rattle.std.proofs.Common.{◌≡◌, ◌≤◌, ℕ, Bool, List, Option, None, Some, refl, sym, ◌∙◌, ap, subst, map, length, arith}
use Rattle.std.specs.Prelude.{Ok, Err, [], is_some, option_map, if◌then◌else◌}
use Rattle.std.specs.Option.{option_map_or}
use Rattle.std.proofs.lemmas.List.{length-map}
use Rattle.ls_board.specs.declared.world.World.{World}
use Rattle.ls_board.specs.Acts.{Sight}
use Rattle.ls_credential.specs.declared.kind.Kind.{Kind}
use Rattle.ls_record.specs.declared.row.UserRow.{UserRow}
use Rattle.ls_record.specs.Rows.{IsRecord}
use Rattle.ls_script.specs.declared.command.Command.{Command}
use Rattle.ls_script.specs.declared.command.Command.TheVariants as command
use Rattle.ls_script.specs.declared.reply.Reply.{Reply}
use Rattle.ls_script.specs.declared.reply.Reply.TheVariants as reply
use Rattle.ls_script.specs.declared.reply.Refusal.TheVariants.{NoUser}
use Rattle.ls_script.specs.declared.reply.StatusRow.{StatusRow}
use Rattle.ls_script.specs.declared.reply.TokenState.{TokenState}
use Rattle.ls_script.specs.declared.reply.TokenState.TheVariants.{Pending, Active, Absent}
use Rattle.ls_standing.specs.Standing.{SaysUser}
use Rattle.ls_vault.specs.declared.state.State.{State}
use Rattle.ls_vault.specs.declared.state.Outcome.{Outcome}
use Rattle.ls_vault.specs.declared.user.User.{User}
use Rattle.ls_vault.specs.Effects.{status_row}
use Rattle.ls_vault.specs.Refusals.{is_opened}
use Rattle.ls_vault.specs.Revealed.{shown_length}
use Rattle.ls_vault.specs.Script.{Stage, standing_of}
use Rattle.ls_vault.specs.States.{on_user}
use Rattle.ls_vault.specs.TokenChanges.{token_state}
use Rattle.ls_vault.specs.Tokens.{is_pending, token_of}
use Rattle.ls_vault.specs.Users.{user_of}
use Rattle.ls_turn.specs.declared.session.Session.{Session}
use Rattle.ls_turn.specs.declared.stop.Cause.TheVariants as cause
use Rattle.ls_turn.specs.declared.stop.Stop.TheVariants.{Memory}
use Rattle.ls_turn.specs.Agreeing.{Agrees}
use Rattle.ls_turn.specs.Refusing.{row_of, is_open, is_waiting}
use Rattle.ls_turn.specs.Serving.{CanServe, Serves, turned, stage_in, users_told, Always}
use Rattle.ls_turn.proofs.KnownLemmas.{opened_is, pending_count_is, pending_is, active_is, active_count_is}
use Rattle.ls_turn.proofs.RowLemmas.{users_are, user_there, nobody_there}
use Rattle.ls_turn.proofs.StillLemmas.{answered, lacking}
use Rattle.ls_questions.specs.Answers.{status_in, standing_in, token_state_in}
use Rattle.ls_questions.proofs.TurnLemmas.{turned_by, turned_nobody, turned_user}

-- ---- any command on a user that is answered by its row

-- the command does this for the user that is found
abbrev IsQuestion : ℕ → Command → ℕ → (Stage → Option User → Outcome) → Type 0
IsQuestion n c user act = (at : Stage) → turned n c at ≡ turned_by at (act at) (user_of at.state.vault.users user)

module _ (old : Sight) (x : Session) (can : CanServe old x) (user : ℕ) (c : Command) (act : Stage → Option User → Outcome) (is : IsQuestion x.slots c user act) where
  pub unknown : row_of x.settings.settled.rec user ≡ None → Serves old x (turned x.slots c) Always (Ok (reply.No NoUser)) x old
  unknown none = answered old x (turned x.slots c) Always (reply.No NoUser) can (omega arith)
      (λ s agrees.
      let at = stage_in old.world s in
      is at ∙ turned_nobody at (act at) (user_of s.vault.users user) (nobody_there old.world x s agrees user none))

  known : (row : UserRow) → row_of x.settings.settled.rec user ≡ Some row → (r : Reply) → users_told r ≤ 16
      → ((s : State) → Agrees old.world x s → (u : User) → SaysUser row u → user_of s.vault.users user ≡ Some u → act (stage_in old.world s) (Some u) ≡ record { reply = r; state = s })
      → Serves old x (turned x.slots c) Always (Ok r) x old
  known row found r few told = answered old x (turned x.slots c) Always r can few
      (λ s agrees.
      let at = stage_in old.world s in
      let there = user_there old.world x s agrees user row found in
      is at ∙ turned_user at (act at) (user_of s.vault.users user) there.0 there.1 (record { reply = r; state = s }) (told s agrees there.0 there.2.says there.1))

-- ---- each of them

abbrev pub status_act : ℕ → Stage → Option User → Outcome
status_act user at found = on_user found at.state (λ u. record { reply = reply.Status (status_row at.state user u); state = at.state })

abbrev pub pin_act : Stage → Option User → Outcome
pin_act at found = on_user found at.state (λ u. record { reply = reply.PinLength (shown_length u); state = at.state })

abbrev pub token_act : ℕ → ℕ → Stage → Option User → Outcome
token_act user id at found = record { reply = reply.TokenState (token_state at.state user id); state = at.state }

-- where a token stands, by whether it waits and whether it is active
abbrev state_by : Bool → Bool → TokenState
state_by waits active = if waits then Pending else if active then Active else Absent

module _ (old : Sight) (x : Session) (can : CanServe old x) (user : ℕ) where
  abbrev IsRowOf : UserRow → Type 0
  IsRowOf row = row_of x.settings.settled.rec user ≡ Some row

  -- ---- how a user stands

  status_same : (row : UserRow) (s : State) → Agrees old.world x s → (u : User) → SaysUser row u → status_row s user u ≡ status_in x user row
  status_same row s agrees u says = λ i. record {
    opened = opened_is old.world x s agrees user i;
    kind = sym says.kind i;
    escrow = sym says.escrow i;
    secure = sym says.secure i;
    active = active_count_is row u says i;
    pending = pending_count_is old.world x s agrees user i;
  }

  pub status_unknown : row_of x.settings.settled.rec user ≡ None → Serves old x (turned x.slots (command.Status user)) Always (Ok (reply.No NoUser)) x old
  status_unknown none = unknown old x can user (command.Status user) (status_act user) (λ at. refl) none

  pub status_known : (row : UserRow) → IsRowOf row → (answer : StatusRow) → answer ≡ status_in x user row
      → Serves old x (turned x.slots (command.Status user)) Always (Ok (reply.Status answer)) x old
  status_known row found answer is = known old x can user (command.Status user) (status_act user) (λ at. refl) row found (reply.Status answer) (omega arith)
      (λ s agrees u says there. ap (λ (r : StatusRow). record { reply = reply.Status r; state = s }) (status_same row s agrees u says ∙ sym is))

  -- ---- where a token stands

  token_same : (row : UserRow) (id : ℕ) (s : State) → Agrees old.world x s → (u : User) → SaysUser row u → user_of s.vault.users user ≡ Some u
      → token_state s user id ≡ token_state_in x user row id
  token_same row id s agrees u says there =
      ap (λ (o : Option User). state_by (is_pending s user id) (is_some (token_of (option_map_or (λ v. v.tokens) o []) id))) there
      ∙ (ap (λ (b : Bool). state_by b (is_some (token_of u.tokens id))) (pending_is old.world x s agrees user id)
      ∙ ap (λ (b : Bool). state_by (is_waiting x user id) b) (active_is row u says id))

  pub token_unknown : (id : ℕ) → row_of x.settings.settled.rec user ≡ None → Serves old x (turned x.slots (command.TokenState user id)) Always (Ok (reply.No NoUser)) x old
  token_unknown id none = unknown old x can user (command.TokenState user id) (token_act user id) (λ at. refl) none

  pub token_known : (id : ℕ) (row : UserRow) → IsRowOf row → (answer : TokenState) → answer ≡ token_state_in x user row id
      → Serves old x (turned x.slots (command.TokenState user id)) Always (Ok (reply.TokenState answer)) x old
  token_known id row found answer is = known old x can user (command.TokenState user id) (token_act user id) (λ at. refl) row found (reply.TokenState answer) (omega arith)
      (λ s agrees u says there. ap (λ (r : TokenState). record { reply = reply.TokenState r; state = s }) (token_same row id s agrees u says there ∙ sym is))

  -- ---- the length of a PIN

  pub pin_unknown : row_of x.settings.settled.rec user ≡ None → Serves old x (turned x.slots (command.PinLength user)) Always (Ok (reply.No NoUser)) x old
  pin_unknown none = unknown old x can user (command.PinLength user) pin_act (λ at. refl) none

  pub pin_known : (row : UserRow) → IsRowOf row → Serves old x (turned x.slots (command.PinLength user)) Always (Ok (reply.PinLength row.pin)) x old
  pin_known row found = known old x can user (command.PinLength user) pin_act (λ at. refl) row found (reply.PinLength row.pin) (omega arith)
      (λ s agrees u says there. ap (λ (n : ℕ). record { reply = reply.PinLength n; state = s }) (sym says.pin))

-- ---- how a user stands, by the machine

abbrev standing_by : State → ℕ → Option User → Option (Bool × Kind)
standing_by s user found = option_map (λ u. (is_opened s user, u.credential.kind)) found

abbrev standing_for : Session → ℕ → Option UserRow → Option (Bool × Kind)
standing_for x user found = option_map (λ r. (is_open x user, r.kind)) found

pub standing_agrees : (w : World) (x : Session) (s : State) → Agrees w x s → (user : ℕ) → standing_in x user ≡ standing_of s user
standing_agrees w x s agrees user = by (row_of x.settings.settled.rec user) refl
  where
    by : (found : Option UserRow) → row_of x.settings.settled.rec user ≡ found → standing_in x user ≡ standing_of s user
    by None is = ap (standing_for x user) is ∙ sym (ap (standing_by s user) (nobody_there w x s agrees user is))
    by (Some row) is =
        let there = user_there w x s agrees user row is in
        ap (standing_for x user) is
        ∙ (ap (λ (k : Kind). Some (is_open x user, k)) there.2.says.kind
        ∙ (ap (λ (b : Bool). Some (b, there.0.credential.kind)) (sym (opened_is w x s agrees user))
        ∙ sym (ap (standing_by s user) there.1)))

-- what the call gives without a row, and with one
pub standing_none : (x : Session) (user : ℕ) → row_of x.settings.settled.rec user ≡ None → None ≡ standing_in x user
standing_none x user none = sym (ap (standing_for x user) none)

pub standing_some : (x : Session) (user : ℕ) (row : UserRow) → row_of x.settings.settled.rec user ≡ Some row → (opened : Bool) → opened ≡ is_open x user → Some (opened, row.kind) ≡ standing_in x user
standing_some x user row some opened is =
    ap (λ (b : Bool). Some (b, row.kind)) is ∙ sym (ap (standing_for x user) some)

-- ---- all users

module _ (old : Sight) (x : Session) (can : CanServe old x) where
  -- the numbers of the rows are those of the users
  pub users_told_all : IsRecord x.settings.settled.rec → (list : List ℕ) → list ≡ map (λ r. r.user) x.settings.settled.rec.users
      → Serves old x (turned x.slots command.Users) Always (Ok (reply.Users list)) x old
  users_told_all rules list is = answered old x (turned x.slots command.Users) Always (reply.Users list) can few
      (λ s agrees. ap (λ (l : List ℕ). record { reply = reply.Users l; stage = stage_in old.world s })
      (sym (users_are old.world x s agrees) ∙ sym is))
    where
      few : length list ≤ 16
      few = subst (λ (l : List ℕ). length l ≤ 16) (sym is) (subst (λ (n : ℕ). n ≤ 16) (sym (length-map x.settings.settled.rec.users (λ r. r.user))) rules.few)

-- without memory the session stops
pub users_lacking : (old : Sight) (x y : Session) → y ≡ record x { stopped = Some cause.Memory } → Serves old x (turned x.slots command.Users) Always (Err Memory) y old
users_lacking old x y is = lacking old x y (turned x.slots command.Users) Always (record {
  slots = ap (λ (z : Session). z.slots) is;
  boot = ap (λ (z : Session). z.boot) is;
  settings = ap (λ (z : Session). z.settings) is;
  named = ap (λ (z : Session). z.named.items) is;
  retired = ap (λ (z : Session). z.retired.items) is;
}) (ap (λ (z : Session). z.stopped) is)
