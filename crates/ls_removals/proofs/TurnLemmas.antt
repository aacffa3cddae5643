-- A command on a user that takes away: the machine's turn, by why it refuses.
use Rattle.std.proofs.Common.{◌≡◌, ◌≢◌, ℕ, Bool, cond, drop, length, Option, None, Some, refl, sym, ◌∙◌, ap, arith}
use Rattle.std.specs.Prelude.{◌==◌, Ok}
use Rattle.std.proofs.lemmas.Bool.{eq-eqb}
use Rattle.ls_board.specs.declared.world.World.{World}
use Rattle.ls_board.specs.Acts.{Sight}
use Rattle.ls_naming.specs.Current.{last_sequence}
use Rattle.ls_record.specs.declared.row.UserRow.{UserRow}
use Rattle.ls_script.specs.declared.command.Command.{Command}
use Rattle.ls_script.specs.declared.reply.Refusal.{Refusal}
use Rattle.ls_script.specs.declared.reply.Refusal.TheVariants.{Worn}
use Rattle.ls_script.specs.declared.reply.Reply.TheVariants.{No}
use Rattle.ls_standing.specs.Named.{held_of_row}
use Rattle.ls_standing.specs.Standing.{HoldsUser}
use Rattle.ls_tape.specs.Tape.{drawn}
use Rattle.ls_vault.specs.declared.state.State.{State}
use Rattle.ls_vault.specs.declared.user.User.{User}
use Rattle.ls_vault.specs.declared.vault.Books.{Books}
use Rattle.ls_vault.specs.Drawn.{len_unless}
use Rattle.ls_vault.specs.Limits.{is_worn, last_of_64}
use Rattle.ls_vault.specs.Refusals.{of_user, worn_refusal}
use Rattle.ls_vault.specs.Script.{Stage}
use Rattle.ls_vault.specs.States.{fine}
use Rattle.ls_vault.specs.Step.{unless}
use Rattle.ls_vault.specs.Users.{user_of}
use Rattle.ls_turn.specs.declared.session.Session.{Session}
use Rattle.ls_turn.specs.Agreeing.{Agrees}
use Rattle.ls_turn.specs.Refusing.{of_row, row_of, unless_kept}
use Rattle.ls_turn.specs.Serving.{CanServe, Serves, Turned, turned, stage_in, Always}
use Rattle.ls_turn.proofs.RowLemmas.{user_there, nobody_there}
use Rattle.ls_turn.proofs.StillLemmas.{answered}

-- it draws nothing and takes no moment
abbrev pub turned_by : Stage → State → Option Refusal → Turned
turned_by at out why = record {
  reply = (unless why at.state (fine out)).reply;
  stage = record {
    state = (unless why at.state (fine out)).state;
    moments = at.moments;
    noise = drop (length (drawn at.noise (len_unless why 0))) at.noise;
  };
}

-- ---- the refusals

module _ (w : World) (x : Session) (s : State) (a : Agrees w x s) where
  worn_is : is_worn s ≡ (x.settings.settled.sequence == last_sequence)
  worn_is = ap (λ (b : Books). b.kept == last_of_64) a.books_are

  -- nothing can be kept any more, for the session as for the machine
  pub worn_alike : worn_refusal s ≡ unless_kept x
  worn_alike = ap (λ (b : Bool). cond b (Some Worn) None) worn_is

  abbrev pub IsHeld : UserRow → User → Type 0
  IsHeld row u = HoldsUser row (held_of_row w x.settings.settled.rec.armed row) u

  -- so is what the row of a user refuses, where it is so for each user who is there
  pub by_row : (user : ℕ) (cause : User → Option Refusal) (own : UserRow → Option Refusal)
      → ((row : UserRow) (u : User) → row_of x.settings.settled.rec user ≡ Some row → user_of s.vault.users user ≡ Some u → IsHeld row u → cause u ≡ own row)
      → of_user (user_of s.vault.users user) cause ≡ of_row (row_of x.settings.settled.rec user) own
  by_row user cause own each = by (row_of x.settings.settled.rec user) refl
    where
      by : (o : Option UserRow) → row_of x.settings.settled.rec user ≡ o → of_user (user_of s.vault.users user) cause ≡ of_row o own
      by None none = ap (λ (o : Option User). of_user o cause) (nobody_there w x s a user none)
      by (Some row) found =
          let its = user_there w x s a user row found in
          ap (λ (o : Option User). of_user o cause) its.1 ∙ each row its.0 found its.1 its.2

-- where that doesn't refuse, something can be kept
pub kept_fresh : (x : Session) → unless_kept x ≡ None → x.settings.settled.sequence ≢ last_sequence
kept_fresh x none last =
    let bad : ◌≡◌ {A = Option Refusal} (Some Worn) None =
    sym (ap (λ (b : Bool). cond b (Some Worn) None) (eq-eqb x.settings.settled.sequence last_sequence last)) ∙ none in
    cc

-- ---- a refused command

module _ (x : Session) (c : Command) (own : Option Refusal) (out : State → State)
    (turn_is : (w : World) (s : State) → Agrees w x s → turned x.slots c (stage_in w s) ≡ turned_by (stage_in w s) (out s) own) where
  pub refused_serves : (old : Sight) → CanServe old x → (why : Refusal) → own ≡ Some why → Serves old x (turned x.slots c) Always (Ok (No why)) x old
  refused_serves old can why is = answered old x (turned x.slots c) Always (No why) can (omega arith)
      (λ s agrees. turn_is old.world s agrees ∙ ap (turned_by (stage_in old.world s) (out s)) is)
