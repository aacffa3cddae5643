-- An attempt is served.
use Rattle.std.proofs.Common.{◌≡◌, ◌≤◌, inl, inr, ⊎_elim, ℕ, Bool, IsTrue, List, Option, Some, Result, Ok, Err, refl, sym, ◌∙◌, ap, subst, arith}
use Rattle.ls_board.specs.declared.action.Action.{Action}
use Rattle.ls_board.specs.declared.action.BoardFault.{BoardFault}
use Rattle.ls_board.specs.declared.action.BoardFault.TheVariants as board
use Rattle.ls_board.specs.declared.action.Part.{Part}
use Rattle.ls_board.specs.declared.world.World.{World}
use Rattle.ls_board.specs.Acts.{Sight, Rose}
use Rattle.ls_board.specs.Keeping.{Keeps}
use Rattle.ls_board.specs.Runs.{LeavesOnly}
use Rattle.ls_board.specs.Worlds.{InOrder}
use Rattle.ls_board.proofs.RunLemmas.{joins, weaker}
use Rattle.ls_chain.specs.declared.fault.Spot.{Spot}
use Rattle.ls_chain.specs.declared.fault.ChainFault.{ChainFault}
use Rattle.ls_chain.specs.declared.fault.ChainFault.TheVariants.{Corrupt, Failed, Memory}
use Rattle.ls_chain.specs.Trying.{MayTry, OnAnswer, LeavesAsked}
use Rattle.ls_drawing.specs.Drawing.{stop_of}
use Rattle.ls_formats.specs.declared.parts.Parts.{Parts}
use Rattle.ls_naming.specs.Current.{Settled}
use Rattle.ls_record.specs.declared.row.UserRow.{UserRow}
use Rattle.ls_record.specs.Rows.{IsRecord}
use Rattle.ls_revealing.specs.Revealing.{secure_asked}
use Rattle.ls_script.specs.declared.reply.Refusal.{Refusal}
use Rattle.ls_script.specs.declared.reply.Reply.{Reply}
use Rattle.ls_script.specs.declared.reply.Reply.TheVariants as reply
use Rattle.ls_script.specs.declared.reply.Revealed.{Revealed}
use Rattle.ls_secret.specs.Secrets.{SecretValue}
use Rattle.ls_serving.specs.Calls.{IsSilent}
use Rattle.ls_serving.specs.Turns.{StaysInside}
use Rattle.ls_serving.proofs.TurnLemmas.{inside-trans}
use Rattle.ls_settings.specs.Loaded.{Loaded}
use Rattle.ls_standing.specs.Bare.{IsBare}
use Rattle.ls_standing.specs.Standing.{StandsDurably}
use Rattle.ls_standing.proofs.QuietLemmas.{durably_left}
use Rattle.ls_turn.specs.declared.session.Session.{Session}
use Rattle.ls_turn.specs.declared.session.Opened.{Opened}
use Rattle.ls_turn.specs.declared.stop.Cause.{Cause}
use Rattle.ls_turn.specs.declared.stop.Stop.{Stop}
use Rattle.ls_turn.specs.declared.stop.Stop.TheVariants as stop
use Rattle.ls_turn.specs.Agreeing.{Agrees, HaveMetrics, HaveSecrets, files_of, retired_files, session_of}
use Rattle.ls_turn.specs.Refusing.{row_of}
use Rattle.ls_turn.specs.Serving.{CanServe, IsBetween, IsTurn, MeetsFair, Serves, StaysBare, Turned, stage_in, stopped_by, users_told, vault_after}
use Rattle.ls_turn.proofs.BehindLemmas.{KeepsSession, LeavesStored, silent-trans}
use Rattle.ls_turn.proofs.StillLemmas.{HasKept}
use Rattle.ls_turn.proofs.StoredLemmas.{stored_agrees, stored_bare, stored_durably}
use Rattle.ls_vault.specs.declared.state.State.{State}
use Rattle.ls_vault.specs.declared.user.User.{User}
use Rattle.ls_vault.specs.declared.vault.Vault.{Vault}
use Rattle.ls_vault.specs.Script.{Stage}
use Rattle.ls_unlocking.specs.declared.ending.Tried.{Tried}
use Rattle.ls_unlocking.specs.declared.ending.Tried.TheVariants as tried
use Rattle.ls_unlocking.specs.declared.ending.Ending.{Ending}
use Rattle.ls_unlocking.specs.declared.ending.Ending.TheVariants as ending
use Rattle.ls_unlocking.specs.Finishing.{Finishes, OpensUser, StopsBy, entry, corrupt_at}
use Rattle.ls_unlocking.specs.Trying.{Unlocks}
use Rattle.ls_unlocking.proofs.AlikeLemmas.{Alike, alike_trans, alike_silent, alike_strange, alike_can, alike_agrees}
use Rattle.ls_unlocking.proofs.AskedLemmas.{IsAsked, MayAsk, asked_silent, tried_asked}
use Rattle.ls_unlocking.proofs.EndLemmas.{Ends, EndIs, is_opened, end_is}
use Rattle.ls_unlocking.proofs.LeadLemmas.{Leads}
use Rattle.ls_unlocking.proofs.OpenedLemmas.{opened_kept, pending_same, stopped_same, prepared_same, opened_session, with_secrets, with_metrics, if_secrets}
use Rattle.ls_unlocking.proofs.UnlockLemmas.{Counts, KeepsAll, secure_may, unlock_keeps, unlock_crash}

-- ---- what is kept, as the session tells it

module _ (old new : Sight) (told_is : new.told ≡ old.told) (never : new.never_fails ≡ old.never_fails) (slots : new.slots ≡ old.slots) (later : (p : Part) → old.faults p ≤ new.faults p) where
  keeps_reply : (r : Reply) → new.faults ≡ old.faults → Keeps {T = Reply} {E = Stop} stop.Fault old new (Ok r)
  keeps_reply r quiet = record {
    told = told_is;
    never_fails = never;
    slots = slots;
    later = later;
    quiet = quiet;
    other = λ e is apart. quiet;
    cause = λ p is. absurd (cc);
  }

  keeps_memory : new.faults ≡ old.faults → Keeps {T = Reply} {E = Stop} stop.Fault old new (Err stop.Memory)
  keeps_memory quiet = record {
    told = told_is;
    never_fails = never;
    slots = slots;
    later = later;
    quiet = tt;
    other = λ e is apart. quiet;
    cause = λ p is. absurd (cc);
  }

  keeps_fault : (part : Part) → Rose (old.faults part) (new.faults part) → Keeps {T = Reply} {E = Stop} stop.Fault old new (Err (stop.Fault part))
  keeps_fault part rose = record {
    told = told_is;
    never_fails = never;
    slots = slots;
    later = later;
    quiet = tt;
    other = λ e is apart. absurd (apart part (sym (same_stop e is)));
    cause = λ p is. subst (λ (q : Part). Rose (old.faults q) (new.faults q)) (same_part p is) rose;
  }
    where
      same_stop : (e : Stop) → ◌≡◌ {A = Result Reply Stop} (Err (stop.Fault part)) (Err e) → stop.Fault part ≡ e
      same_stop e is = cc

      same_part : (p : Part) → ◌≡◌ {A = Result Reply Stop} (Err (stop.Fault part)) (Err (stop.Fault p)) → part ≡ p
      same_part p is = cc

-- ---- an attempt behind calls that keep what a session knows

module _ (row : UserRow) (user : ℕ) (ask : World → Option Action) (look : World → Result Tried Spot) (may : (w : World) → MayAsk (ask w)) (old m1 new : Sight) (x y : Session)
    (turn : Stage → Turned) (fair : World → State → Type 0) (end : Result Ending ChainFault) (first : KeepsSession old m1) (near : IsTrue old.told → Alike old.world m1.world)
    (un : Unlocks row ask look m1 end new) (can : CanServe old x) (is : IsRecord x.settings.settled.rec) (found_row : row_of x.settings.settled.rec user ≡ Some row)
    (order : IsTrue new.told → InOrder new.world) where
  abbrev z : Settled
  z = x.settings.settled

  abbrev after : State → Turned
  after s = turn (stage_in old.world s)

  kept : KeepsAll m1 end new
  kept = unlock_keeps row ask look may m1 end new un

  told_mid : IsTrue old.told → IsTrue m1.told
  told_mid told = subst (λ (b : Bool). IsTrue b) (sym first.told) told

  told_is : new.told ≡ old.told
  told_is = kept.told ∙ first.told

  told_new : IsTrue old.told → IsTrue new.told
  told_new told = subst (λ (b : Bool). IsTrue b) (sym told_is) told

  never : new.never_fails ≡ old.never_fails
  never = kept.never_fails ∙ first.never_fails

  slots_are : new.slots ≡ old.slots
  slots_are = kept.slots ∙ first.slots

  later : (p : Part) → old.faults p ≤ new.faults p
  later p = subst (λ (f : Part → ℕ). f p ≤ new.faults p) first.faults (kept.later p)

  counts : Counts old.faults new.faults end
  counts = subst (λ (f : Part → ℕ). Counts f new.faults end) first.faults kept.counts

  inside : IsTrue old.told → StaysInside old new
  inside told = inside-trans old m1 new (first.inside told) (kept.inside (told_mid told))

  silent : IsTrue old.told → IsSilent old.world new.world
  silent told = silent-trans old.world m1.world new.world (first.silent told) (kept.silent (told_mid told) (order (told_new told)))

  agrees_mid : IsTrue old.told → (s : State) → Agrees old.world x s → Agrees m1.world x s
  agrees_mid told s agrees = stored_agrees old.world m1.world (first.storage told) x s agrees

  -- what the command owes: in a world in which the session agrees, the asking leads to the machine's
  -- vault, the secrets and the metrics that are known are so there, and where the call was answered
  -- it comes to the machine's turn
  pub record Owes (s : State) : Type 0 where
    pub leads : Leads m1.world z s.vault (vault_after turn old.world s) (ask m1.world)
    pub secrets : (l : List Opened) → HaveSecrets s.vault.users l → HaveSecrets (vault_after turn old.world s).users l
    pub metrics : (l : List Opened) → HaveMetrics s.vault.users l → HaveMetrics (vault_after turn old.world s).users l
    pub ends : OnAnswer un.tried (Ends user s (after s) m1.world (look m1.world))

  module _ (owes : IsTrue old.told → (s : State) → Agrees old.world x s → MeetsFair fair old new s → Owes s) where
    -- ---- a crash

    module _ (told : IsTrue old.told) (s : State) (agrees : Agrees old.world x s) (fairly : MeetsFair fair old new s) where
      o : Owes s
      o = owes told s agrees fairly

      abbrev then : Vault
      then = vault_after turn old.world s

      abbrev Between : World → Type 0
      Between = IsBetween old.world s.vault then

      stored_between : (image : World) → LeavesStored old.world image → Between image
      stored_between image l = record {
        either = inl (z, durably_left l.met image z s.vault (stored_durably old.world l.met l.storage z s.vault agrees.stands) l.left);
        silent = record {
          said = ap (λ (u : World). u.said) l.left.rest ∙ l.silent.said;
          input = ap (λ (u : World). u.input) l.left.rest ∙ l.silent.input;
        };
      }

      asked_between : (image : World) → LeavesAsked m1.world (ask m1.world) image → Between image
      asked_between image left = record {
        either = ⊎_elim (λ (h : StandsDurably image z s.vault). inl (z, h)) (λ (h : StandsDurably image z then). inr (z, h)) (o.leads.cut image left);
        silent = silent-trans old.world m1.world image (first.silent told) (asked_silent m1.world image (ask m1.world) (may m1.world) left);
      }

      module _ (secret : SecretValue) (e : un.tried ≡ Ok (tried.Opened secret)) where
        opens : MayTry ask look m1 (Ok (tried.Opened secret)) un.mid
        opens = subst (λ (t : Result Tried ChainFault). MayTry ask look m1 t un.mid) e un.trying

        mid_silent : IsSilent m1.world un.mid.world
        mid_silent = alike_silent m1.world un.mid.world (tried_asked ask look m1 (Ok (tried.Opened secret)) un.mid may opens (told_mid told)).alike

        told_between : (image : World) → LeavesAsked un.mid.world (secure_asked row secret un.mid.world) image → Between image
        told_between image left =
            let known = is_opened row user z is found_row ask look s (after s) m1 un.mid new (told_mid told) o.leads secret opens
            (subst (λ (t : Result Tried ChainFault). OnAnswer t (Ends user s (after s) m1.world (look m1.world))) e o.ends) in
            record {
              either = ⊎_elim (λ (h : StandsDurably image z then). inr (z, h)) (λ (h : StandsDurably image z then). inr (z, h)) (known.leads_on.cut image left);
              silent = silent-trans old.world m1.world image (first.silent told)
                  (silent-trans m1.world un.mid.world image mid_silent
                  (asked_silent un.mid.world image (secure_asked row secret un.mid.world) (secure_may row secret un.mid.world) left));
            }

      crash : LeavesOnly old new Between
      crash =
          joins old m1 new Between (weaker old m1 (LeavesStored old.world) Between stored_between (first.crash told))
          (unlock_crash row ask look may m1 end new un Between asked_between told_between (told_mid told))

      comes_to : EndIs row user z is found_row ask look s (after s) m1 un.mid new (told_mid told) o.leads end
      comes_to = end_is row user z is found_row ask look s (after s) m1 un.mid new (told_mid told) o.leads end un.tried un.trying un.behind o.ends

      alike_now : IsAsked m1.world new.world → Alike old.world new.world
      alike_now asked = alike_trans old.world m1.world new.world (near told) asked.alike

      -- a bare world is bare again, with the same protectors
      bare_again : HasKept x y → ((start : World) (retired : List (List ℕ)) → IsBare start m1.world z.rec retired → IsBare start new.world z.rec retired) → StaysBare old.world x new.world y
      bare_again k on start bare =
          subst (λ (l : List Parts). IsBare start new.world y.settings.settled.rec (files_of l)) (sym k.retired)
          (subst (λ (l : Loaded). IsBare start new.world l.settled.rec (retired_files x)) (sym k.settings)
          (on start (retired_files x) (stored_bare old.world m1.world (first.storage told) start z.rec (retired_files x) bare)))

    -- ---- a reply

    module _ (r : Reply) (few : users_told r ≤ 16) (k : HasKept x y) (stopped : y.stopped ≡ x.stopped) (pending : y.pending.items ≡ x.pending.items) (quiet : new.faults ≡ old.faults)
        (asked : IsTrue m1.told → IsAsked m1.world new.world)
        (done : (told : IsTrue old.told) (s : State) → Agrees old.world x s → MeetsFair fair old new s → IsTurn (after s) r y new.world × StaysBare old.world x new.world y) where
      alike_told : IsTrue old.told → Alike old.world new.world
      alike_told told = alike_trans old.world m1.world new.world (near told) (asked (told_mid told)).alike

      going : (c : Cause) → ◌≡◌ {A = Result Reply Stop} (Ok r) (Err (stop.Stopped c)) → ⊥
      going c e = cc

      reply_serves : Serves old x turn fair (Ok r) y new
      reply_serves = record {
        keeps = keeps_reply old new told_is never slots_are later r quiet;
        slots = k.slots;
        boot = k.boot;
        cause = stopped;
        going = going;
        can = alike_can old new x y k told_is slots_are alike_told stopped pending can;
        few = few;
        silent = silent;
        inside = inside;
        strange = λ told. alike_strange old.world new.world (alike_told told);
        crash = crash;
        done = λ told s agrees fairly. (done told s agrees fairly).0;
        bare = λ told s agrees fairly. (done told s agrees fairly).1;
      }

    -- ---- a stop

    module _ (fault : BoardFault) (same : y ≡ record x { opened = y.opened; captured = y.captured; stopped = stopped_by (stop_of fault) x.stopped }) where
      fresh : (f : BoardFault) (c : Cause) → ◌≡◌ {A = Result Reply Stop} (Err (stop_of f)) (Err (stop.Stopped c)) → ⊥
      fresh (board.Failed part) c e = cc
      fresh board.Memory c e = cc

      stop_serves : Keeps {T = Reply} {E = Stop} stop.Fault old new (Err (stop_of fault)) → Serves old x turn fair (Err (stop_of fault)) y new
      stop_serves keeps = record {
        keeps = keeps;
        slots = ap (λ (z : Session). z.slots) same;
        boot = ap (λ (z : Session). z.boot) same;
        cause = ap (λ (z : Session). z.stopped) same;
        going = fresh fault;
        can = tt;
        few = tt;
        silent = silent;
        inside = inside;
        strange = λ told. tt;
        crash = crash;
        done = λ told s agrees fairly. tt;
        bare = λ told s agrees fairly. tt;
      }

    stop_memory : (result : Result Reply Stop) → new.faults ≡ old.faults → StopsBy x board.Memory result y → Serves old x turn fair result y new
    stop_memory result quiet s = subst (λ (r : Result Reply Stop). Serves old x turn fair r y new) (sym s.answer)
        (stop_serves board.Memory s.same (keeps_memory old new told_is never slots_are later quiet))

    stop_fault : (part : Part) (result : Result Reply Stop) → Rose (old.faults part) (new.faults part) → StopsBy x (board.Failed part) result y → Serves old x turn fair result y new
    stop_fault part result rose s = subst (λ (r : Result Reply Stop). Serves old x turn fair r y new) (sym s.answer)
        (stop_serves (board.Failed part) s.same (keeps_fault old new told_is never slots_are later part rose))

    -- ---- by what it comes to

    abbrev EndsAs : (told : IsTrue old.told) (s : State) → Agrees old.world x s → MeetsFair fair old new s → Result Ending ChainFault → Type 0
    EndsAs told s agrees fairly e = EndIs row user z is found_row ask look s (after s) m1 un.mid new (told_mid told) (o told s agrees fairly).leads e

    -- the user is opened
    module _ (secret : SecretValue) (told_of : Revealed) (e : end ≡ Ok (ending.Opened secret told_of)) (opens_user : OpensUser x (entry user secret told_of.metrics) y) where
      abbrev one : Opened
      one = entry user secret told_of.metrics

      asked_on : IsTrue m1.told → IsAsked m1.world new.world
      asked_on told = subst (λ (r : Result Ending ChainFault). OnAnswer r (IsAsked m1.world new.world)) e (kept.alike told)

      module _ (told : IsTrue old.told) (s : State) (agrees : Agrees old.world x s) (fairly : MeetsFair fair old new s) where
        g : EndsAs told s agrees fairly (Ok (ending.Opened secret told_of))
        g = subst (EndsAs told s agrees fairly) e (comes_to told s agrees fairly)

        abbrev users : List User
        users = (after s).stage.state.vault.users

        known : Owes s
        known = o told s agrees fairly

        opened_agrees : Agrees new.world y (after s).stage.state
        opened_agrees =
            alike_agrees m1.world new.world x y s (after s).stage.state (agrees_mid told s agrees) (asked_on (told_mid told)).alike g.stays.stands (opened_kept x y one opens_user)
            (opened_session x y one opens_user s agrees.session (after s).stage.state.vault ∙ sym (ap (λ (t : State). t.session) g.state))
            (ap (λ (t : State). t.books) g.state)
            (subst (HaveSecrets users) (sym opens_user.opened) (with_secrets x y one opens_user users g.u g.there x.opened.items g.secret_is (known.secrets x.opened.items agrees.opened)))
            (subst (HaveMetrics users) (sym opens_user.opened)
            (with_metrics x y one opens_user users g.u g.there x.opened.items (ap (λ (r : Revealed). r.metrics) g.gets) (known.metrics x.opened.items agrees.metrics)))
            (subst (HaveSecrets users) (sym opens_user.captured)
            (if_secrets x y one opens_user users g.u g.there x.prepared x.captured.items g.secret_is (known.secrets x.captured.items agrees.captured)))
            (stopped_same x y one opens_user) (prepared_same x y one opens_user)

        opened_done : IsTurn (after s) (reply.Opened told_of) y new.world × StaysBare old.world x new.world y
        opened_done = (
          record {
            reply_is = ap (λ (r : Revealed). reply.Opened r) g.gets ∙ sym g.reply;
            agrees = opened_agrees;
            moments = (asked_on (told_mid told)).moments ∙ sym g.stays.moments;
            noise = ap (λ (w : World). w.noise) (asked_on (told_mid told)).alike.is ∙ sym g.stays.noise;
          },
          bare_again told s agrees fairly (opened_kept x y one opens_user) g.stays.bare,
        )

      opened_serves : Serves old x turn fair (Ok (reply.Opened told_of)) y new
      opened_serves =
          reply_serves (reply.Opened told_of) (omega arith) (opened_kept x y one opens_user) (stopped_same x y one opens_user) (pending_same x y one opens_user)
          (subst (Counts old.faults new.faults) e counts) asked_on opened_done

    -- it is refused
    module _ (same : y ≡ x) where
      same_kept : HasKept x y
      same_kept = record {
        slots = ap (λ (z : Session). z.slots) same;
        boot = ap (λ (z : Session). z.boot) same;
        settings = ap (λ (z : Session). z.settings) same;
        named = ap (λ (z : Session). z.named.items) same;
        retired = ap (λ (z : Session). z.retired.items) same;
      }

      still_stopped : y.stopped ≡ x.stopped
      still_stopped = ap (λ (z : Session). z.stopped) same

      still_pending : y.pending.items ≡ x.pending.items
      still_pending = ap (λ (z : Session). z.pending.items) same

      module _ (why : Refusal) (e : end ≡ Ok (ending.Refused why)) where
        refused_asked : IsTrue m1.told → IsAsked m1.world new.world
        refused_asked told = subst (λ (r : Result Ending ChainFault). OnAnswer r (IsAsked m1.world new.world)) e (kept.alike told)

        module _ (told : IsTrue old.told) (s : State) (agrees : Agrees old.world x s) (fairly : MeetsFair fair old new s) where
          r : EndsAs told s agrees fairly (Ok (ending.Refused why))
          r = subst (EndsAs told s agrees fairly) e (comes_to told s agrees fairly)

          abbrev users_then : List User
          users_then = (after s).stage.state.vault.users

          owed : Owes s
          owed = o told s agrees fairly

          refused_agrees : Agrees new.world y (after s).stage.state
          refused_agrees =
              alike_agrees m1.world new.world x y s (after s).stage.state (agrees_mid told s agrees) (refused_asked (told_mid told)).alike r.stays.stands same_kept
              (ap session_of same ∙ agrees.session ∙ sym (ap (λ (t : State). t.session) r.state))
              (ap (λ (t : State). t.books) r.state)
              (subst (λ (z : Session). HaveSecrets users_then z.opened.items) (sym same) (owed.secrets x.opened.items agrees.opened))
              (subst (λ (z : Session). HaveMetrics users_then z.opened.items) (sym same) (owed.metrics x.opened.items agrees.metrics))
              (subst (λ (z : Session). HaveSecrets users_then z.captured.items) (sym same) (owed.secrets x.captured.items agrees.captured))
              still_stopped (ap (λ (z : Session). z.prepared) same)

          refused_done : IsTurn (after s) (reply.No why) y new.world × StaysBare old.world x new.world y
          refused_done = (
            record {
              reply_is = sym r.reply;
              agrees = refused_agrees;
              moments = (refused_asked (told_mid told)).moments ∙ sym r.stays.moments;
              noise = ap (λ (w : World). w.noise) (refused_asked (told_mid told)).alike.is ∙ sym r.stays.noise;
            },
            bare_again told s agrees fairly same_kept r.stays.bare,
          )

        refused_serves : Serves old x turn fair (Ok (reply.No why)) y new
        refused_serves =
            reply_serves (reply.No why) (omega arith) same_kept still_stopped still_pending (subst (Counts old.faults new.faults) e counts) refused_asked refused_done

      -- a file is at fault, in a world in which no session agrees
      module _ (why : Refusal) (spot : Spot) (e : end ≡ Err (Corrupt spot)) where
        corrupt_serves : Serves old x turn fair (Ok (reply.No why)) y new
        corrupt_serves =
            reply_serves (reply.No why) (omega arith) same_kept still_stopped still_pending (subst (Counts old.faults new.faults) e counts)
            (λ told. subst (λ (r : Result Ending ChainFault). OnAnswer r (IsAsked m1.world new.world)) e (kept.alike told))
            (λ told s agrees fairly. absurd (subst (EndsAs told s agrees fairly) e (comes_to told s agrees fairly)))

    -- ---- whatever it comes to

    module _ (credential id : ℕ) (result : Result Reply Stop) where
      by_end : (e : Result Ending ChainFault) → end ≡ e → Finishes user credential id x e result y → Serves old x turn fair result y new
      by_end (Ok (ending.Opened secret told_of)) e (inl f) = subst (λ (r : Result Reply Stop). Serves old x turn fair r y new) (sym f.0) (opened_serves secret told_of e f.1)
      by_end (Ok (ending.Opened secret told_of)) e (inr f) = stop_memory result (subst (Counts old.faults new.faults) e counts) f
      by_end (Ok (ending.Refused why)) e f = subst (λ (r : Result Reply Stop). Serves old x turn fair r y new) (sym f.0) (refused_serves f.1 why e)
      by_end (Err (Corrupt spot)) e (inl f) = subst (λ (r : Result Reply Stop). Serves old x turn fair r y new) (sym f.0) (corrupt_serves f.1 (corrupt_at user credential id spot) spot e)
      by_end (Err (Corrupt spot)) e (inr f) = stop_memory result (subst (Counts old.faults new.faults) e counts) f
      by_end (Err (Failed part)) e f = stop_fault part result (subst (Counts old.faults new.faults) e counts) f
      by_end (Err Memory) e f = stop_memory result (subst (Counts old.faults new.faults) e counts) f

      pub finish_serves : Finishes user credential id x end result y → Serves old x turn fair result y new
      finish_serves f = by_end end refl f
