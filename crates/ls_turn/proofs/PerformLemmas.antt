-- A change of the vault, as a turn of the machine.
use Rattle.std.proofs.Common.{◌≡◌, ◌≢◌, ◌++◌, inl, inr, ⊎_elim, ◌≤◌, ℕ, Bool, IsTrue, None, Some, refl, sym, ◌∙◌, ap, subst, arith}
use Rattle.std.specs.Prelude.{Result, Ok, Err, OnOk}
use Rattle.std.specs.List.{AllByRecursion}
use Rattle.ls_board.specs.declared.action.Part.{Part}
use Rattle.ls_board.specs.declared.world.World.{World}
use Rattle.ls_board.specs.Acts.{Sight, Rose}
use Rattle.ls_board.specs.Acts as acts
use Rattle.ls_board.specs.Keeping.{Keeps}
use Rattle.ls_board.specs.Reach.{AllTouchOnly}
use Rattle.ls_board.specs.Rest.{SameRest}
use Rattle.ls_board.specs.Runs.{LeavesOnly, Did, FailedIn, after_all}
use Rattle.ls_board.proofs.RunLemmas.{started, weaker, readied}
use Rattle.ls_naming.specs.Current.{Settled, last_sequence}
use Rattle.ls_protector.specs.Clear.{AreUnnamed}
use Rattle.ls_record.specs.Rows.{IsRecord}
use Rattle.ls_script.specs.declared.reply.Reply.{Reply}
use Rattle.ls_script.specs.declared.reply.Reply.TheVariants.{Fine}
use Rattle.ls_sealing.specs.Protectors.{Protector, held_number}
use Rattle.ls_serving.specs.Calls.{IsSilent}
use Rattle.ls_serving.specs.Turns.{StaysInside}
use Rattle.ls_serving.proofs.TurnLemmas.{inside-trans}
use Rattle.ls_settings.specs.Loaded.{Loaded, IsReady, settings_reach}
use Rattle.ls_standing.specs.Bare.{IsBare}
use Rattle.ls_standing.specs.Books.{books}
use Rattle.ls_standing.specs.NamedProtectors.{NamesProtector}
use Rattle.ls_standing.specs.Quiet.{unnamed}
use Rattle.ls_standing.specs.Standing.{StandsDurably}
use Rattle.ls_vault.specs.declared.state.State.{State}
use Rattle.ls_vault.specs.declared.vault.Vault.{Vault}
use Rattle.ls_vault.specs.Script.{Stage}
use Rattle.ls_change.specs.declared.work.Work.{Work}
use Rattle.ls_change.specs.Work.{IsQuietWork, Readies, IsDuring, actions_of, next_of, staged}
use Rattle.ls_turn.specs.declared.session.Session.{Session}
use Rattle.ls_turn.specs.declared.stop.Cause.{Cause}
use Rattle.ls_turn.specs.declared.stop.Cause.TheVariants as cause
use Rattle.ls_turn.specs.declared.stop.Stop.{Stop}
use Rattle.ls_turn.specs.declared.stop.Stop.TheVariants.{Fault, Memory, Stopped}
use Rattle.ls_turn.specs.Agreeing.{Agrees, AreNamed, retired_files}
use Rattle.ls_turn.specs.Serving.{Turned, CanServe, IsBetween, IsTurn, KeepsStrange, StaysBare, Serves, Always, stage_in, vault_after}
use Rattle.ls_turn.specs.Waiting.{CanWait}
use Rattle.ls_turn.specs.Working.{Commits, KeepsNamed, LeavesKept}
use Rattle.ls_turn.proofs.InsideLemmas.{IsMute, all_mute, mute_append, plan_inside, failed_inside, room_inside}
use Rattle.ls_turn.proofs.StillLemmas.{left_between}

-- ---- no room

quiet_counts : (f g : Part → ℕ) → f ≡ g → (p : Part) → g p ≤ f p
quiet_counts f g is p = subst (λ (h : Part → ℕ). g p ≤ h p) (sym is) (omega arith)

module _ (old mid : Sight) (x y : Session) (turn : Stage → Turned) (fair : World → State → Type 0) (slots : y.slots ≡ x.slots) (boot : y.boot ≡ x.boot) where
  lacks_no_part : (p : Part) → ◌≡◌ {A = Result Reply Stop} (Err Memory) (Err (Fault p)) → ⊥
  lacks_no_part p e = cc

  lacks_no_cause : (c : Cause) → ◌≡◌ {A = Result Reply Stop} (Err Memory) (Err (Stopped c)) → ⊥
  lacks_no_cause c e = cc

  -- the room could not be made
  pub gave_up : {E : Type 0} (actions bytes : ℕ) (result : Result (Unit {0}) E) → acts.Readies old actions bytes result mid → y.stopped ≡ Some cause.Memory → Serves old x turn fair (Err Memory) y mid
  gave_up actions bytes result room stopped =
      let faults : mid.faults ≡ old.faults = ap (λ (s : Sight). s.faults) room.same in
      record {
        keeps = record {
          told = ap (λ (s : Sight). s.told) room.same;
          never_fails = ap (λ (s : Sight). s.never_fails) room.same;
          slots = ap (λ (s : Sight). s.slots) room.same;
          later = quiet_counts mid.faults old.faults faults;
          quiet = tt;
          other = λ e is apart. faults;
          cause = λ p is. absurd (lacks_no_part p is);
        };
        slots = slots;
        boot = boot;
        cause = stopped;
        going = lacks_no_cause;
        can = tt;
        few = tt;
        silent = λ told. record {
          said = ap (λ (s : Sight). s.world.said) room.same;
          input = ap (λ (s : Sight). s.world.input) room.same;
        };
        inside = λ told. room_inside old mid actions bytes result room;
        strange = λ told. tt;
        crash = λ told s agrees fairly.
            let P = IsBetween old.world s.vault (vault_after turn old.world s) in
            readied old old mid P actions bytes result
            (started old P (λ image left. left_between old.world image x.settings.settled s.vault (vault_after turn old.world s) agrees.stands left)) room;
        done = λ told s agrees fairly. tt;
        bare = λ told s agrees fairly. tt;
      }

abbrev nothing_made : Result (Unit {0}) (Unit {0})
nothing_made = Err tt

no_ready : (old : Sight) → acts.Readies old 0 0 nothing_made old
no_ready old = record { same = refl; more = (omega arith, omega arith); room = tt }

-- the change weighs more than can be asked for
pub too_heavy : (old : Sight) (x y : Session) (turn : Stage → Turned) → y.slots ≡ x.slots → y.boot ≡ x.boot → y.stopped ≡ Some cause.Memory → Serves old x turn Always (Err Memory) y old
too_heavy old x y turn slots boot stopped = gave_up old old x y turn Always slots boot 0 0 nothing_made (no_ready old) stopped

-- ---- the change

pub during_between : (w image : World) (from to : Settled) (old new : Vault) → IsDuring w from to old new image → IsBetween w old new image
during_between w image from to old new d = record {
  either = ⊎_elim (λ (is : StandsDurably image from old). inl (from, is)) (λ (is : StandsDurably image to new). inr (to, is)) d.either;
  silent = record { said = ap (λ (v : World). v.said) d.rest.is; input = ap (λ (v : World). v.input) d.rest.is };
}

module _ (old mid new : Sight) (x : Session) (k : Work) (turn : Stage → Turned) (leads : Commits old x x.named.items x.retired.items k turn)
    {E : Type 0} (actions bytes : ℕ) (made : Result (Unit {0}) E) (room : acts.Readies old actions bytes made mid) where
  same_world : mid.world ≡ old.world
  same_world = ap (λ (s : Sight). s.world) room.same

  told_there : IsTrue old.told → IsTrue mid.told
  told_there told = subst (λ (b : Bool). IsTrue b) (sym (ap (λ (s : Sight). s.told) room.same)) told

  abbrev IsCrash : Type 0
  IsCrash = IsTrue mid.told → (was now : Vault) → StandsDurably mid.world x.settings.settled was → Readies mid.world k now
      → LeavesOnly mid new (IsDuring mid.world x.settings.settled k.commit.to.settled was now)

  from_mid : {P : World → Type 0} → LeavesOnly mid new P → LeavesOnly old new P
  from_mid l = record { calls = l.calls; joined = l.joined ∙ ap (λ (s : Sight). l.calls ++ s.past) room.same; each = l.each; now = l.now }

  work_crash : IsCrash → IsTrue old.told → (s : State) → Agrees old.world x s → LeavesOnly old new (IsBetween old.world s.vault (vault_after turn old.world s))
  work_crash crash told s agrees =
      let l = leads told s agrees in
      let after = vault_after turn old.world s in
      let there = crash (told_there told) s.vault after (subst (λ (w : World). StandsDurably w x.settings.settled s.vault) (sym same_world) agrees.stands) (subst (λ (w : World). Readies w k after) (sym same_world) l.readies) in
      let here = subst (λ (w : World). LeavesOnly mid new (IsDuring w x.settings.settled k.commit.to.settled s.vault after)) same_world there in
      from_mid (weaker mid new (IsDuring old.world x.settings.settled k.commit.to.settled s.vault after) (IsBetween old.world s.vault after) (λ image d. during_between old.world image x.settings.settled k.commit.to.settled s.vault after d) here)

  keeps_here : {T : Type 0} (result : Result T Part) → Keeps {T = T} {E = Part} (λ p. p) mid new result → Keeps {T = T} {E = Part} (λ p. p) old new result
  keeps_here result keeps = record {
    told = keeps.told ∙ ap (λ (s : Sight). s.told) room.same;
    never_fails = keeps.never_fails ∙ ap (λ (s : Sight). s.never_fails) room.same;
    slots = keeps.slots ∙ ap (λ (s : Sight). s.slots) room.same;
    later = λ p. subst (λ (f : Part → ℕ). f p ≤ new.faults p) faults (keeps.later p);
    quiet = subst (λ (f : Part → ℕ). OnOk result (new.faults ≡ f)) faults keeps.quiet;
    other = λ e is apart. keeps.other e is apart ∙ faults;
    cause = λ p is. subst (λ (f : Part → ℕ). Rose (f p) (new.faults p)) faults (keeps.cause p is);
  }
    where
      faults : mid.faults ≡ old.faults
      faults = ap (λ (s : Sight). s.faults) room.same

  -- Whatever it answers, nothing but storage is another.
  module _ (rests : IsTrue mid.told → SameRest mid.world new.world) where
    rest_here : IsTrue old.told → SameRest old.world new.world
    rest_here told = subst (λ (w : World). SameRest w new.world) same_world (rests (told_there told))

    silent_here : IsTrue old.told → IsSilent old.world new.world
    silent_here told = record {
      said = ap (λ (w : World). w.said) (rest_here told).is;
      input = ap (λ (w : World). w.input) (rest_here told).is;
    }

    -- none of its actions is a hearing or a saying
    work_mute : IsQuietWork old.world x.settings k → AllTouchOnly settings_reach k.commit.actions → AllByRecursion IsMute (actions_of k)
    work_mute quiet commits =
        mute_append k.before (k.commit.actions ++ k.after) (all_mute (unnamed old.world x.settings.settled.rec) k.before quiet.before)
        (mute_append k.commit.actions k.after (all_mute settings_reach k.commit.actions commits)
        (all_mute (unnamed (staged old.world k) (next_of k)) k.after quiet.after))

    -- it failed
    pub work_failed : {T : Type 0} (y : Session) (part : Part) → y.slots ≡ x.slots → y.boot ≡ x.boot → y.stopped ≡ Some (cause.Fault part)
        → (IsTrue old.told → IsQuietWork old.world x.settings k) → AllTouchOnly settings_reach k.commit.actions → FailedIn mid (actions_of k) part new
        → Keeps {T = T} {E = Part} (λ p. p) mid new (Err part) → IsCrash → Serves old x turn Always (Err (Fault part)) y new
    work_failed {T} y part slots boot stopped quiet commits failed keeps crash =
        let kept = keeps_here {T = T} (Err part) keeps in
        record {
          keeps = record {
            told = kept.told;
            never_fails = kept.never_fails;
            slots = kept.slots;
            later = kept.later;
            quiet = tt;
            other = λ e is apart. absurd (apart part (sym (same_stop e is)));
            cause = λ p is. subst (λ (q : Part). Rose (old.faults q) (new.faults q)) (same_part p is) (kept.cause part refl);
          };
          slots = slots;
          boot = boot;
          cause = stopped;
          going = no_stopped;
          can = tt;
          few = tt;
          silent = silent_here;
          inside = λ told.
              inside-trans old mid new (room_inside old mid actions bytes made room)
              (failed_inside (actions_of k) part mid new (work_mute (quiet told) commits) failed (told_there told));
          strange = λ told. tt;
          crash = λ told s agrees fairly. work_crash crash told s agrees;
          done = λ told s agrees fairly. tt;
          bare = λ told s agrees fairly. tt;
        }
      where
        same_stop : (e : Stop) → ◌≡◌ {A = Result Reply Stop} (Err (Fault part)) (Err e) → Fault part ≡ e
        same_stop e is = cc

        same_part : (p : Part) → ◌≡◌ {A = Result Reply Stop} (Err (Fault part)) (Err (Fault p)) → part ≡ p
        same_part p is = cc

        no_stopped : (c : Cause) → ◌≡◌ {A = Result Reply Stop} (Err (Fault part)) (Err (Stopped c)) → ⊥
        no_stopped c e = cc

    -- it was done
    module _ (did : Did mid (actions_of k) new) where
      world_there : IsTrue old.told → new.world ≡ after_all old.world (actions_of k)
      world_there told = did.world (told_there told) ∙ ap (λ (w : World). after_all w (actions_of k)) same_world

      work_inside : IsTrue old.told → IsQuietWork old.world x.settings k → AllTouchOnly settings_reach k.commit.actions → StaysInside old new
      work_inside told quiet commits =
          inside-trans old mid new (room_inside old mid actions bytes made room)
          (plan_inside (actions_of k) mid.world mid new (work_mute quiet commits) (did.past (told_there told)))

      module _ (y : Session) (is : record x { settings = y.settings } ≡ y) (to : y.settings ≡ k.commit.to) where
        abbrev z : Session
        z = record x { settings = y.settings }

        module _ (can : CanServe old x) (named : KeepsNamed x.slots k x.named.items) (waits : CanWait (next_of k).users x.pending.items) (left : IsTrue old.told → LeavesKept old.world k x.named.items x.retired.items)
            (same_slots : mid.slots ≡ old.slots) (ready : IsTrue mid.told → IsReady new.world k.commit.to) where
          named_then : (p : Protector) → NamesProtector y.settings.settled.rec p → NamesProtector (next_of k) p
          named_then p has = subst (λ (s : Loaded). NamesProtector s.settled.rec p) to has

          named_now : (p : Protector) → NamesProtector (next_of k) p → NamesProtector y.settings.settled.rec p
          named_now p has = subst (λ (s : Loaded). NamesProtector s.settled.rec p) (sym to) has

          was_told : IsTrue new.told → IsTrue old.told
          was_told told = subst (λ (b : Bool). IsTrue b) (did.told ∙ ap (λ (s : Sight). s.told) room.same) told

          can_next : CanServe new z
          can_next = record {
            going = can.going;
            slots = can.slots ∙ sym same_slots ∙ sym did.slots;
            each = λ p has. named.each p (named_then p has);
            only = λ q has. let o = named.only q has in (o.0, named_now o.0 o.1, o.2);
            once = named.once;
            names = can.names;
            ready = λ told. subst (IsReady new.world) (sym to) (ready (told_there (was_told told)));
            numbers = λ told p has n held.
                let was = was_told told in
                (left was).numbers p (named_then p has) n (subst (λ (w : World). held_number w p ≡ Some n) (world_there was) held);
            apart = λ told. (left (was_told told)).apart;
            retired = λ told.
                let was = was_told told in
                subst (λ (s : Loaded). AreUnnamed new.world s.settled.rec (retired_files x)) (sym to)
                (subst (λ (w : World). AreUnnamed w (next_of k) (retired_files x)) (sym (world_there was)) (left was).are_retired);
            waits = subst (λ (v : Loaded). CanWait v.settled.rec.users x.pending.items) (sym to) waits;
          }

        its_turn : (stands : IsTrue mid.told → (now : Vault) → Readies mid.world k now → StandsDurably new.world k.commit.to.settled now)
            → (ready : IsTrue mid.told → IsReady new.world k.commit.to) → x.stopped ≡ None
            → IsTrue old.told → (s : State) → Agrees old.world x s → IsTurn (turn (stage_in old.world s)) Fine z new.world
        its_turn stands ready going told s agrees =
            let l = leads told s agrees in
            let t = turn (stage_in old.world s) in
            let after = vault_after turn old.world s in
            let there = world_there told in
            let rest = rest_here told in
            let ready_now = subst (λ (w : World). Readies w k after) (sym same_world) l.readies in
            record {
              reply_is = sym l.reply;
              agrees = record {
                keeps = subst (λ (v : Loaded). IsRecord v.settled.rec) (sym to) l.keeps;
                stands = subst (λ (v : Loaded). StandsDurably new.world v.settled after) (sym to) (stands (told_there told) after ready_now);
                ready = subst (IsReady new.world) (sym to) (ready (told_there told));
                books_are = subst (λ (v : Loaded). t.stage.state.books ≡ books new.world v.settled) (sym to)
                    (subst (λ (w : World). t.stage.state.books ≡ books w k.commit.to.settled) (sym there) l.books_are);
                session = l.session;
                opened = l.opened;
                metrics = l.metrics;
                captured = l.captured;
                named = subst (λ (v : Loaded). AreNamed new.world v.settled.rec x.named.items) (sym to)
                    (subst (λ (w : World). AreNamed w (next_of k) x.named.items) (sym there) l.are_named);
                slots = rest.count ∙ agrees.slots;
                retired = subst (λ (v : Loaded). AreUnnamed new.world v.settled.rec (retired_files x)) (sym to)
                    (subst (λ (w : World). AreUnnamed w (next_of k) (retired_files x)) (sym there) l.are_retired);
                going = going;
                prepared = λ flag. subst (λ (v : Loaded). v.settled.sequence ≢ last_sequence → v.settled.rec.armed ≡ None) (sym to) (l.prepared flag);
              };
              moments = ap (λ (w : World). w.moments) rest.is ∙ sym l.moments;
              noise = ap (λ (w : World). w.noise) rest.is ∙ sym l.noise;
            }

        bare_next : IsTrue old.told → (s : State) → Agrees old.world x s → StaysBare old.world x new.world z
        bare_next told s agrees start bare =
            subst (λ (v : Loaded). IsBare start new.world v.settled.rec (retired_files x)) (sym to)
            (subst (λ (w : World). IsBare start w (next_of k) (retired_files x)) (sym (world_there told)) ((leads told s agrees).bare start bare))

        pub work_done : {T : Type 0} (done : T) → CanServe old x → KeepsNamed x.slots k x.named.items → CanWait (next_of k).users x.pending.items → (IsTrue old.told → LeavesKept old.world k x.named.items x.retired.items)
            → (IsTrue old.told → IsQuietWork old.world x.settings k) → AllTouchOnly settings_reach k.commit.actions
            → Keeps {T = T} {E = Part} (λ p. p) mid new (Ok done) → IsCrash
            → (IsTrue mid.told → (now : Vault) → Readies mid.world k now → StandsDurably new.world k.commit.to.settled now)
            → (IsTrue mid.told → IsReady new.world k.commit.to)
            → Serves old x turn Always (Ok Fine) y new
        work_done {T} done can named waits left quiet commits keeps crash stands ready =
            let k1 = keeps_here {T = T} (Ok done) keeps in
            subst (λ (v : Session). Serves old x turn Always (Ok Fine) v new) is (record {
              keeps = record {
                told = k1.told;
                never_fails = k1.never_fails;
                slots = k1.slots;
                later = k1.later;
                quiet = k1.quiet;
                other = λ e is apart. k1.quiet;
                cause = λ p is. absurd (cc);
              };
              slots = refl;
              boot = refl;
              cause = refl;
              going = no_stopped;
              can = can_next can named waits left (ap (λ (s : Sight). s.slots) room.same) ready;
              few = omega arith;
              silent = silent_here;
              inside = λ told. work_inside told (quiet told) commits;
              strange = λ told. subst (λ (w : World). KeepsStrange old.world w) (sym (world_there told)) (left told).strange;
              crash = λ told s agrees fairly. work_crash crash told s agrees;
              done = λ told s agrees fairly. its_turn stands ready can.going told s agrees;
              bare = λ told s agrees fairly. bare_next told s agrees;
            })
          where
            no_stopped : (c : Cause) → ◌≡◌ {A = Result Reply Stop} (Ok Fine) (Err (Stopped c)) → ⊥
            no_stopped c e = cc
