-- A user is closed, as the machine does it.
use Rattle.std.proofs.Common.{◌≡◌, ℕ, List, Option, None, Some, refl, sym, ◌∙◌, ap, subst, arith}
use Rattle.std.specs.Prelude.{Ok, filter}
use Rattle.std.specs.List.{Contains}
use Rattle.ls_arming.specs.Numbers.{without_number}
use Rattle.ls_board.specs.declared.world.World.{World}
use Rattle.ls_board.specs.Acts.{Sight}
use Rattle.ls_record.specs.declared.row.UserRow.{UserRow}
use Rattle.ls_script.specs.declared.command.Command.TheVariants as command
use Rattle.ls_script.specs.declared.reply.Reply.TheVariants.{Fine, No}
use Rattle.ls_script.specs.declared.reply.Refusal.TheVariants.{NoUser}
use Rattle.ls_vault.specs.declared.session.SessionState.{SessionState}
use Rattle.ls_vault.specs.declared.state.State.{State}
use Rattle.ls_vault.specs.declared.state.Outcome.{Outcome}
use Rattle.ls_vault.specs.declared.user.User.{User}
use Rattle.ls_vault.specs.Script.{Stage}
use Rattle.ls_vault.specs.States.{fine}
use Rattle.ls_vault.specs.Unlocking.{locked}
use Rattle.ls_vault.specs.Users.{user_of}
use Rattle.ls_turn.specs.declared.session.Session.{Session}
use Rattle.ls_turn.specs.declared.session.Opened.{Opened}
use Rattle.ls_turn.specs.Agreeing.{Agrees, users_in, session_of}
use Rattle.ls_turn.specs.Refusing.{row_of}
use Rattle.ls_turn.specs.Serving.{CanServe, Turned, IsTurn, Serves, turned, stage_in, Always}
use Rattle.ls_turn.proofs.KnownLemmas.{is_another, users_without, in_filtered}
use Rattle.ls_turn.proofs.RowLemmas.{user_there}
use Rattle.ls_turn.proofs.StillLemmas.{HasKept, still}
use Rattle.ls_turn.proofs.WaitLemmas.{waits_kept}
use Rattle.ls_questions.proofs.TurnLemmas.{turned_user}
use Rattle.ls_questions.proofs.QuestionLemmas.{unknown}

abbrev lock_act : ℕ → Stage → Option User → Outcome
lock_act user at found = fine (locked at.state user)

module _ (old : Sight) (x : Session) (can : CanServe old x) (user : ℕ) where
  pub lock_unknown : row_of x.settings.settled.rec user ≡ None → Serves old x (turned x.slots (command.Lock user)) Always (Ok (No NoUser)) x old
  lock_unknown none = unknown old x can user (command.Lock user) (lock_act user) (λ at. refl) none

  -- y is the session without the user among the opened
  module _ (y : Session) (is : record x { opened = y.opened } ≡ y) (opened : y.opened.items ≡ filter (is_another user) x.opened.items) where
    others_kept : HasKept x y
    others_kept = record {
      slots = ap (λ (z : Session). z.slots) (sym is);
      boot = ap (λ (z : Session). z.boot) (sym is);
      settings = ap (λ (z : Session). z.settings) (sym is);
      named = ap (λ (z : Session). z.named.items) (sym is);
      retired = ap (λ (z : Session). z.retired.items) (sym is);
    }

    its_session : session_of (record x { opened = y.opened }) ≡ record (session_of x) { opened = without_number (users_in x.opened.items) user }
    its_session = ap (λ (l : List ℕ). record (session_of x) { opened = l }) (ap users_in opened ∙ users_without user x.opened.items)

    was_opened : (o : Opened) → Contains y.opened.items o → Contains x.opened.items o
    was_opened o has = in_filtered (is_another user) x.opened.items o (subst (λ (l : List Opened). Contains l o) opened has)

    agrees_locked : (w : World) (s : State) → Agrees w x s → Agrees w y (locked s user)
    agrees_locked w s a = subst (λ (z : Session). Agrees w z (locked s user)) is (record {
      keeps = a.keeps;
      stands = a.stands;
      ready = a.ready;
      books_are = a.books_are;
      session = its_session ∙ ap (λ (t : SessionState). record t { opened = without_number t.opened user }) a.session;
      opened = λ o has. a.opened o (was_opened o has);
      metrics = λ o has. a.metrics o (was_opened o has);
      captured = a.captured;
      named = a.named;
      slots = a.slots;
      retired = a.retired;
      going = a.going;
      prepared = a.prepared;
    })

    pub lock_known : (row : UserRow) → row_of x.settings.settled.rec user ≡ Some row → Serves old x (turned x.slots (command.Lock user)) Always (Ok Fine) y old
    lock_known row found = still old x y (turned x.slots (command.Lock user)) Always others_kept Fine can (ap (λ (z : Session). z.stopped) (sym is)) (waits_kept x y (ap (λ (z : Session). z.settings) (sym is)) (ap (λ (z : Session). z.pending.items) (sym is)) can.waits) (omega arith)
        (λ told s agrees.
        let at = stage_in old.world s in
        let there = user_there old.world x s agrees user row found in
        subst (λ (t : Turned). IsTurn t Fine y old.world)
        (sym (turned_user at (lock_act user at) (user_of s.vault.users user) there.0 there.1 (fine (locked s user)) refl)) (record {
          reply_is = refl;
          agrees = agrees_locked old.world s agrees;
          moments = refl;
          noise = refl;
        }))
