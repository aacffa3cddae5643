-- A user is dropped.
use Rattle.std.proofs.Common.{◌≡◌, ◌≢◌, ℕ, Bool, true, false, cond, not, List, [], ◌∷◌, map, Option, None, Some, refl, sym, ◌∙◌, ap, subst}
use Rattle.std.specs.Prelude.{◌==◌, IsSomeAnd, Ok}
use Rattle.std.specs.List.{Contains}
use Rattle.std.proofs.lemmas.Bool.{eqb-true, eqb-false, ne_eqb, not-true}
use Rattle.ls_arming.specs.declared.arming.Arming.{Arming}
use Rattle.ls_arming.specs.Disarming.{arming_of, disarmed}
use Rattle.ls_arming.specs.Numbers.{without_number}
use Rattle.ls_board.specs.declared.world.World.{World}
use Rattle.ls_board.specs.Acts.{Sight}
use Rattle.ls_edits.proofs.DropLemmas.{dropped as dropped_holds}
use Rattle.ls_edits.proofs.FilterLemmas.{filtered_in}
use Rattle.ls_record.specs.declared.row.UserRow.{UserRow}
use Rattle.ls_record.specs.Rows.{Rec, IsRecord}
use Rattle.ls_script.specs.declared.command.Command.{Command}
use Rattle.ls_script.specs.declared.command.Command.TheVariants as command
use Rattle.ls_script.specs.declared.reply.Refusal.{Refusal}
use Rattle.ls_script.specs.declared.reply.Refusal.TheVariants.{NoUser}
use Rattle.ls_script.specs.declared.reply.Reply.TheVariants.{No}
use Rattle.ls_standing.specs.Books.{dead_users}
use Rattle.ls_standing.specs.Standing.{Holds}
use Rattle.ls_vault.specs.declared.session.SessionState.{SessionState}
use Rattle.ls_vault.specs.declared.state.State.{State}
use Rattle.ls_vault.specs.declared.user.User.{User}
use Rattle.ls_vault.specs.declared.vault.Books.{Books}
use Rattle.ls_vault.specs.Refusals.{worn_refusal}
use Rattle.ls_vault.specs.Revealed.{shown_metrics}
use Rattle.ls_vault.specs.Script.{Stage}
use Rattle.ls_vault.specs.Tokens.{pending_of_others}
use Rattle.ls_vault.specs.UserChanges.{dropped}
use Rattle.ls_vault.specs.Users.{user_of, without_user}
use Rattle.ls_turn.specs.declared.session.Opened.{Opened}
use Rattle.ls_turn.specs.declared.session.Session.{Session}
use Rattle.ls_turn.specs.Agreeing.{Agrees, HaveMetrics, HaveSecrets, pending_token, session_of, users_in}
use Rattle.ls_turn.specs.Refusing.{of_row, own_refusal, row_of, unless_kept}
use Rattle.ls_turn.specs.Serving.{CanServe, Serves, Turned, turned, stage_in, Always}
use Rattle.ls_turn.specs.Waiting.{CanWait, those_of}
use Rattle.ls_turn.proofs.KnownLemmas.{users_without}
use Rattle.ls_turn.proofs.RowLemmas.{row_found}
use Rattle.ls_turn.proofs.WaitLemmas.{none_of_others, wait_dropped, wait_without}
use Rattle.ls_removals.specs.Going.{goes}
use Rattle.ls_removals.specs.Ending.{HasLost, all_of, others_of}
use Rattle.ls_removals.specs.Letting.{AllLeaveTo, LeavesTo, waiting_still}
use Rattle.ls_removals.proofs.EndingLemmas.{less, drop_may}
use Rattle.ls_removals.proofs.EscrowLemmas.{others_alike, others_still}
use Rattle.ls_removals.proofs.TurnLemmas.{by_row, kept_fresh, refused_serves, turned_by, worn_alike}

-- ---- the other users

-- another user is found as before
other_found : (users : List User) (n m : ℕ) → m ≢ n → user_of (without_user users n) m ≡ user_of users m
other_found [] n m apart = refl
other_found (u ∷ users) n m apart = by (u.number == n) refl (other_found users n m apart)
  where
    by : (b : Bool) → (u.number == n) ≡ b → user_of (without_user users n) m ≡ user_of users m
        → user_of (cond (not b) (u ∷ without_user users n) (without_user users n)) m ≡ cond (u.number == m) (Some u) (user_of users m)
    by true is later =
        let its = eqb-true u.number n is in
        later ∙ ap (λ (c : Bool). cond c (Some u) (user_of users m)) (sym (ne_eqb u.number m (λ e. apart (sym e ∙ its))))
    by false is later = ap (λ (o : Option User). cond (u.number == m) (Some u) o) later

module _ (P : Opened → User → Type 0) (users : List User) (user : ℕ) where
  -- what is so of each opened user is so of the others without the user
  others_have : (opened : List Opened) → ((o : Opened) → Contains opened o → IsSomeAnd (user_of users o.user) (P o))
      → (kept : List Opened) → kept ≡ others_of user opened → (o : Opened) → Contains kept o → IsSomeAnd (user_of (without_user users user) o.user) (P o)
  others_have opened all kept is o has =
      let f = filtered_in (λ (o : Opened). not (o.user == user)) opened o (subst (λ (l : List Opened). Contains l o) is has) in
      subst (λ (u : Option User). IsSomeAnd u (P o)) (sym (other_found users user o.user (eqb-false o.user user (not-true (o.user == user) f.1)))) (all o f.0)

-- ---- the users of an arming whose key is gone

dead_left : (boot : ℕ) (users : List ℕ) → users ≡ dead_users (arming_of boot users) None
dead_left boot [] = refl
dead_left boot (u ∷ users) = refl

none_dead : (boot : ℕ) (users once : List ℕ) → [] ≡ dead_users (arming_of boot users) (Some once)
none_dead boot [] once = refl
none_dead boot (u ∷ users) once = refl

dead_without : (armed : Option Arming) (cell : Option (List ℕ)) (user : ℕ) → without_number (dead_users armed cell) user ≡ dead_users (disarmed armed user) cell
dead_without None cell user = refl
dead_without (Some a) None user = dead_left a.boot (without_number a.users user)
dead_without (Some a) (Some once) user = none_dead a.boot (without_number a.users user) once

-- ---- the command

module _ (x : Session) (user : ℕ) where
  abbrev c : Command
  c = command.Drop user

  abbrev turn : Stage → Turned
  turn = turned x.slots c

  abbrev own : Option Refusal
  own = own_refusal x c

  abbrev r : Rec
  r = x.settings.settled.rec

  turn_is : (w : World) (s : State) → Agrees w x s → turn (stage_in w s) ≡ turned_by (stage_in w s) (dropped s user) own
  turn_is w s a = ap (turned_by (stage_in w s) (dropped s user)) (by_row w x s a user (λ u. worn_refusal s) (λ row. unless_kept x) (λ row u found there held. worn_alike w x s a))

  pub refused : (old : Sight) → CanServe old x → (why : Refusal) → own ≡ Some why → Serves old x turn Always (Ok (No why)) x old
  refused = refused_serves x c own (λ s. dropped s user) turn_is

  pub nobody : row_of r user ≡ None → own ≡ Some NoUser
  nobody none = ap (λ (o : Option UserRow). of_row o (λ row. unless_kept x)) none

  module _ (row : UserRow) (found : row_of r user ≡ Some row) where
    pub own_is : own ≡ unless_kept x
    own_is = ap (λ (o : Option UserRow). of_row o (λ row. unless_kept x)) found

    pub here : Contains r.users row
    here = (row_found user r.users row found).0

    pub its_user : row.user ≡ user
    its_user = (row_found user r.users row found).1

    module _ (is : IsRecord r) (w : World) where
      abbrev then : Rec
      then = less w r is row here user its_user

      -- ---- what waits

      none_wait : those_of row.user (waiting_still (all_of user) x.pending.items) ≡ []
      none_wait = (λ i. those_of (its_user i) (others_still user x.pending.items i)) ∙ none_of_others user x.pending.items

      pub user_waits : CanWait r.users x.pending.items → (n : Rec) → n ≡ then → CanWait n.users (waiting_still (all_of user) x.pending.items)
      user_waits can n same = subst (λ (z : Rec). CanWait z.users (waiting_still (all_of user) x.pending.items)) (sym same)
          (wait_dropped r (waiting_still (all_of user) x.pending.items) (wait_without r.users x.pending.items can (λ p. not (goes (all_of user) p.user p.id))) is row.user none_wait)

      -- ---- where it leads

      module _ (s : State) (a : Agrees w x s) (y : Session) (lost : HasLost user x y) where
        abbrev left : State
        left = record {
          vault = record { users = without_user s.vault.users user; arming = disarmed s.vault.arming user };
          books = record s.books { dead = without_number s.books.dead user };
          session = record s.session {
            opened = without_number s.session.opened user;
            pending = pending_of_others s.session.pending user;
            captured = without_number s.session.captured user;
          };
        }

        holds : Holds w then left.vault
        holds = subst (λ (n : ℕ). Holds w then (record { users = without_user s.vault.users n; arming = disarmed s.vault.arming n })) its_user
            (dropped_holds w r row.user is s.vault a.stands.stands.holds (drop_may w r is row here user its_user))

        dead : left.books.dead ≡ dead_users then.armed w.cell
        dead =
            ap (λ (b : Books). without_number b.dead user) a.books_are
            ∙ (dead_without r.armed w.cell user ∙ ap (λ (n : ℕ). dead_users (disarmed r.armed n) w.cell) (sym its_user))

        opened_now : users_in y.opened.items ≡ without_number s.session.opened user
        opened_now = ap users_in lost.opened ∙ (users_without user x.opened.items ∙ ap (λ (t : SessionState). without_number t.opened user) a.session)

        captured_now : users_in y.captured.items ≡ without_number s.session.captured user
        captured_now = ap users_in lost.captured ∙ (users_without user x.captured.items ∙ ap (λ (t : SessionState). without_number t.captured user) a.session)

        pending_now : map pending_token y.pending.items ≡ pending_of_others s.session.pending user
        pending_now = others_alike w x s a user y.pending.items lost.pending

        session_now : session_of (record x { opened = y.opened; pending = y.pending; captured = y.captured }) ≡ left.session
        session_now = λ i. record (a.session i) { opened = opened_now i; pending = pending_now i; captured = captured_now i }

        secrets : (items kept : List Opened) → kept ≡ others_of user items → HaveSecrets s.vault.users items → HaveSecrets left.vault.users kept
        secrets items kept same all = others_have (λ o u. u.secret ≡ o.secret) s.vault.users user items all kept same

        metrics : (items kept : List Opened) → kept ≡ others_of user items → HaveMetrics s.vault.users items → HaveMetrics left.vault.users kept
        metrics items kept same all = others_have (λ o u. o.metrics ≡ shown_metrics u.credential) s.vault.users user items all kept same

        leads : unless_kept x ≡ None → LeavesTo w y then s (turn (stage_in w s))
        leads unrefused = subst (λ (z : Session). LeavesTo w z then s (turn (stage_in w s))) (sym lost.is) (record {
          left = left;
          turn = turn_is w s a ∙ ap (turned_by (stage_in w s) (dropped s user)) (own_is ∙ unrefused);
          holds = holds;
          kept = refl;
          dead = dead;
          session = session_now;
          opened = secrets x.opened.items y.opened.items lost.opened a.opened;
          metrics = metrics x.opened.items y.opened.items lost.opened a.metrics;
          captured = secrets x.captured.items y.captured.items lost.captured a.captured;
          prepared = λ flag. ap (λ (o : Option Arming). disarmed o row.user) (a.prepared flag (kept_fresh x unrefused));
        })

    pub user_leads : unless_kept x ≡ None → (old : Sight) (y : Session) → HasLost user x y → (is : IsRecord r) (n : Rec) → n ≡ less old.world r is row here user its_user → AllLeaveTo old x y n turn
    user_leads unrefused old y lost is n same told s a = subst (λ (z : Rec). LeavesTo old.world y z s (turn (stage_in old.world s))) (sym same) (leads is old.world s a y lost unrefused)
