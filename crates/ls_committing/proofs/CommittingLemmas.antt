-- A change by protectors, as a turn of the machine.
use Rattle.std.proofs.Common.{◌≡◌, ◌≢◌, ◌++◌, inl, inr, ⊎_elim, ◌≤◌, ℕ, Bool, true, IsTrue, List, [], None, Some, refl, sym, ◌∙◌, ap, subst, arith}
use Rattle.std.specs.Prelude.{Result, Ok, Err, OnOk, map, is_some}
use Rattle.std.specs.List.{AllByRecursion, Contains}
use Rattle.ls_board.specs.declared.action.Action.{Action}
use Rattle.ls_board.specs.declared.action.Part.{Part}
use Rattle.ls_board.specs.declared.world.World.{World}
use Rattle.ls_board.specs.Acts.{Sight, Rose}
use Rattle.ls_board.specs.Images.{Leaves}
use Rattle.ls_board.specs.Keeping.{Keeps}
use Rattle.ls_board.specs.Reach.{AllTouchOnly}
use Rattle.ls_board.specs.Rest.{SameRest}
use Rattle.ls_board.specs.Runs.{LeavesOnly, Did, FailedIn, after_all}
use Rattle.ls_board.proofs.RunLemmas.{weaker}
use Rattle.ls_formats.specs.declared.parts.Parts.{Parts}
use Rattle.ls_naming.specs.Current.{last_sequence}
use Rattle.ls_protector.specs.Clear.{AreUnnamed}
use Rattle.ls_protector.specs.Parts.{parts_of}
use Rattle.ls_record.specs.Rows.{IsRecord}
use Rattle.ls_script.specs.declared.reply.Reply.{Reply}
use Rattle.ls_script.specs.declared.reply.Reply.TheVariants.{Fine}
use Rattle.ls_sealing.specs.Protectors.{Protector, held_number}
use Rattle.ls_serving.specs.Calls.{IsSilent}
use Rattle.ls_serving.specs.Turns.{StaysInside}
use Rattle.ls_settings.specs.Loaded.{Loaded, IsReady, settings_reach}
use Rattle.ls_standing.specs.Bare.{IsBare}
use Rattle.ls_standing.specs.Books.{books}
use Rattle.ls_standing.specs.NamedProtectors.{NamesProtector}
use Rattle.ls_standing.specs.Quiet.{unnamed}
use Rattle.ls_standing.specs.Standing.{StandsDurably}
use Rattle.ls_vault.specs.declared.state.State.{State}
use Rattle.ls_vault.specs.declared.vault.Vault.{Vault}
use Rattle.ls_vault.specs.Script.{Stage}
use Rattle.ls_change.specs.declared.work.Work.{Work}
use Rattle.ls_change.specs.Work.{IsQuietWork, Readies, IsDuring, actions_of, next_of, staged}
use Rattle.ls_exchange.specs.Exchanges.{Exchanged, new_parts, plain, AreNew, AreLeftOut}
use Rattle.ls_turn.specs.declared.session.Session.{Session}
use Rattle.ls_turn.specs.declared.stop.Cause.{Cause}
use Rattle.ls_turn.specs.declared.stop.Cause.TheVariants as cause
use Rattle.ls_turn.specs.declared.stop.Stop.{Stop}
use Rattle.ls_turn.specs.declared.stop.Stop.TheVariants.{Fault, Memory, Stopped}
use Rattle.ls_turn.specs.Agreeing.{Agrees, AreNamed, ArePartNames, HaveSecrets, HaveMetrics, files_of, retired_files, session_of, users_in, pending_token}
use Rattle.ls_turn.specs.Serving.{Turned, CanServe, IsBetween, IsTurn, IsKeptAs, KeepApart, KeepOnce, KeepsStrange, StaysBare, Serves, Always, stage_in, vault_after}
use Rattle.ls_turn.specs.Waiting.{CanWait}
use Rattle.ls_turn.specs.Working.{KeepsNamed, LeavesKept}
use Rattle.ls_turn.proofs.InsideLemmas.{IsMute, all_mute, mute_append, plan_inside, failed_inside}
use Rattle.ls_turn.proofs.PerformLemmas.{during_between}
use Rattle.ls_turn.proofs.StillLemmas.{left_between}
use Rattle.ls_committing.specs.Committing.{IsReadied, CommitsChange, HasBecome, named_then, retired_then}

-- ---- room

-- the sight once more room was made
abbrev roomier : Sight → Sight → Sight
roomier old mid = record old { actions = mid.actions; bytes = mid.bytes }

module _ (old mid : Sight) (same : mid ≡ roomier old mid) where
  same_world : mid.world ≡ old.world
  same_world = ap (λ (s : Sight). s.world) same

  same_told : mid.told ≡ old.told
  same_told = ap (λ (s : Sight). s.told) same

  same_faults : mid.faults ≡ old.faults
  same_faults = ap (λ (s : Sight). s.faults) same

  told_there : IsTrue old.told → IsTrue mid.told
  told_there told = subst (λ (b : Bool). IsTrue b) (sym same_told) told

  told_here : IsTrue mid.told → IsTrue old.told
  told_here told = subst (λ (b : Bool). IsTrue b) same_told told

  -- what the change asks of a told world is so there still
  pub new_there : (at s : Loaded) (work : Exchanged) → at ≡ s → (IsTrue old.told → AreNew old.world s work) → IsTrue mid.told → AreNew mid.world at work
  new_there at s work is was told =
      subst (λ (l : Loaded). AreNew mid.world l work) (sym is)
      (subst (λ (w : World). AreNew w s work) (sym same_world) (was (told_here told)))

  pub left_out_there : (work : Exchanged) → (IsTrue old.told → AreLeftOut old.world work) → IsTrue mid.told → AreLeftOut mid.world work
  left_out_there work was told = subst (λ (w : World). AreLeftOut w work) (sym same_world) (was (told_here told))

  unmoved : IsTrue old.told → StaysInside old mid
  unmoved told = record { calls = []; since = ap (λ (s : Sight). s.past) same; each = tt }

  no_rise : (p : Part) → old.faults p ≤ mid.faults p
  no_rise p = subst (λ (f : Part → ℕ). old.faults p ≤ f p) (sym same_faults) (omega arith)

  lacks_no_part : (p : Part) → ◌≡◌ {A = Result Reply Stop} (Err Memory) (Err (Fault p)) → ⊥
  lacks_no_part p e = cc

  lacks_no_cause : (c : Cause) → ◌≡◌ {A = Result Reply Stop} (Err Memory) (Err (Stopped c)) → ⊥
  lacks_no_cause c e = cc

  lacking_keeps : Keeps {T = Reply} {E = Stop} Fault old mid (Err Memory)
  lacking_keeps = record {
    told = same_told;
    never_fails = ap (λ (s : Sight). s.never_fails) same;
    slots = ap (λ (s : Sight). s.slots) same;
    later = no_rise;
    quiet = tt;
    other = λ e is apart. same_faults;
    cause = λ p is. absurd (lacks_no_part p is);
  }

  -- no room could be made
  pub no_room : (before y : Session) (turn : Stage → Turned) → y.slots ≡ before.slots → y.boot ≡ before.boot → y.stopped ≡ Some cause.Memory → Serves old before turn Always (Err Memory) y mid
  no_room before y turn slots boot stopped = record {
    keeps = lacking_keeps;
    slots = slots;
    boot = boot;
    cause = stopped;
    going = lacks_no_cause;
    can = tt;
    few = tt;
    silent = λ told. record { said = ap (λ (w : World). w.said) same_world; input = ap (λ (w : World). w.input) same_world };
    inside = unmoved;
    strange = λ told. tt;
    crash = λ told s agrees fairly. record {
      calls = [];
      joined = ap (λ (b : Sight). b.past) same;
      each = tt;
      now = λ image left.
          left_between old.world image before.settings.settled s.vault (vault_after turn old.world s) agrees.stands
          (subst (λ (w : World). Leaves w image) same_world left);
    };
    done = λ told s agrees fairly. tt;
    bare = λ told s agrees fairly. tt;
  }

-- ---- the session behind it

-- what the session has become, where only its settings and these lists became others
pub became : (x z y : Session) (to : Loaded) (work : Exchanged) → z ≡ record x { named = z.named; retired = z.retired }
    → z.named.items ≡ x.named.items → z.retired.items ≡ x.retired.items
    → y ≡ record z { settings = y.settings; named = y.named; retired = y.retired } → y.settings ≡ to
    → y.named.items ≡ z.named.items ++ new_parts work.drafts → y.retired.items ≡ z.retired.items ++ work.retire
    → HasBecome x to (named_then x work) (retired_then x work) y
became x z y to work room named retired rest settings bound retires =
    let is = rest ∙ ap (λ (s : Session). record s { settings = y.settings; named = y.named; retired = y.retired }) room in
    record {
      slots = ap (λ (s : Session). s.slots) is;
      boot = ap (λ (s : Session). s.boot) is;
      settings = settings;
      named = bound ∙ ap (λ (l : List Parts). l ++ new_parts work.drafts) named;
      retired = retires ∙ ap (λ (l : List Parts). l ++ work.retire) retired;
      opened = ap (λ (s : Session). s.opened.items) is;
      pending = ap (λ (s : Session). s.pending.items) is;
      prepared = ap (λ (s : Session). s.prepared) is;
      captured = ap (λ (s : Session). s.captured.items) is;
      stopped = ap (λ (s : Session). s.stopped) is;
    }

-- ---- a change

-- none of its actions hears or says
change_mute : (w : World) (s : Loaded) (k : Work) → IsQuietWork w s k → AllTouchOnly settings_reach k.commit.actions → AllByRecursion IsMute (actions_of k)
change_mute w s k quiet commits =
    mute_append k.before (k.commit.actions ++ k.after) (all_mute (unnamed w s.settled.rec) k.before quiet.before)
    (mute_append k.commit.actions k.after (all_mute settings_reach k.commit.actions commits)
    (all_mute (unnamed (staged w k) (next_of k)) k.after quiet.after))

module _ (old mid new : Sight) (same : mid ≡ roomier old mid) (before x : Session) (work : Exchanged) (readied : IsReadied before x)
    (at : Loaded) (at_is : at ≡ x.settings) (turn : Stage → Turned) (leads : CommitsChange old before x work turn) where
  abbrev k : Work
  k = plain work

  abbrev named : List Parts
  named = named_then x work

  abbrev gone : List Parts
  gone = retired_then x work

  abbrev here : mid.world ≡ old.world
  here = same_world old mid same

  abbrev told_at : IsTrue old.told → IsTrue mid.told
  told_at = told_there old mid same

  stands_there : (s : State) → Agrees old.world before s → StandsDurably mid.world at.settled s.vault
  stands_there s agrees =
      subst (λ (w : World). StandsDurably w at.settled s.vault) (sym here)
      (subst (λ (l : Loaded). StandsDurably old.world l.settled s.vault) (sym (at_is ∙ readied.settings)) agrees.stands)

  -- ---- what a crash leaves

  abbrev pub IsCrash : Type 0
  IsCrash = IsTrue mid.told → (was now : Vault) → StandsDurably mid.world at.settled was → Readies mid.world k now
      → LeavesOnly mid new (IsDuring mid.world at.settled k.commit.to.settled was now)

  from_mid : {P : World → Type 0} → LeavesOnly mid new P → LeavesOnly old new P
  from_mid l = record { calls = l.calls; joined = l.joined ∙ ap (λ (s : Sight). l.calls ++ s.past) same; each = l.each; now = l.now }

  change_crash : IsCrash → IsTrue old.told → (s : State) → Agrees old.world before s → LeavesOnly old new (IsBetween old.world s.vault (vault_after turn old.world s))
  change_crash crash told s agrees =
      let l = leads told s agrees in
      let after = vault_after turn old.world s in
      let there = crash (told_at told) s.vault after (stands_there s agrees) (subst (λ (w : World). Readies w k after) (sym here) l.readies) in
      let left = subst (λ (w : World). LeavesOnly mid new (IsDuring w at.settled k.commit.to.settled s.vault after)) here there in
      from_mid (weaker mid new (IsDuring old.world at.settled k.commit.to.settled s.vault after) (IsBetween old.world s.vault after)
      (λ image d. during_between old.world image at.settled k.commit.to.settled s.vault after d) left)

  -- ---- counts, calls, and what is no storage

  keeps_here : {T : Type 0} (result : Result T Part) → Keeps {T = T} {E = Part} (λ p. p) mid new result → Keeps {T = T} {E = Part} (λ p. p) old new result
  keeps_here result keeps = record {
    told = keeps.told ∙ same_told old mid same;
    never_fails = keeps.never_fails ∙ ap (λ (s : Sight). s.never_fails) same;
    slots = keeps.slots ∙ ap (λ (s : Sight). s.slots) same;
    later = λ p. subst (λ (f : Part → ℕ). f p ≤ new.faults p) faults (keeps.later p);
    quiet = subst (λ (f : Part → ℕ). OnOk result (new.faults ≡ f)) faults keeps.quiet;
    other = λ e is apart. keeps.other e is apart ∙ faults;
    cause = λ p is. subst (λ (f : Part → ℕ). Rose (f p) (new.faults p)) faults (keeps.cause p is);
  }
    where
      faults : mid.faults ≡ old.faults
      faults = same_faults old mid same

  inside_here : StaysInside mid new → StaysInside old new
  inside_here there = record { calls = there.calls; since = there.since ∙ ap (λ (s : Sight). there.calls ++ s.past) same; each = there.each }

  module _ (rests : IsTrue mid.told → SameRest mid.world new.world) (quiet : IsTrue old.told → IsQuietWork old.world x.settings k)
      (commits : AllTouchOnly settings_reach k.commit.actions) where
    rest_here : IsTrue old.told → SameRest old.world new.world
    rest_here told = subst (λ (w : World). SameRest w new.world) here (rests (told_at told))

    silent_here : IsTrue old.told → IsSilent old.world new.world
    silent_here told = record {
      said = ap (λ (w : World). w.said) (rest_here told).is;
      input = ap (λ (w : World). w.input) (rest_here told).is;
    }

    mute : IsTrue old.told → AllByRecursion IsMute (actions_of k)
    mute told = change_mute old.world x.settings k (quiet told) commits

    -- ---- it failed

    pub change_failed : {T : Type 0} (y : Session) (part : Part) → y.slots ≡ x.slots → y.boot ≡ x.boot → y.stopped ≡ Some (cause.Fault part)
        → FailedIn mid (actions_of k) part new → Keeps {T = T} {E = Part} (λ p. p) mid new (Err part) → IsCrash
        → Serves old before turn Always (Err (Fault part)) y new
    change_failed {T} y part slots boot stopped failed keeps crash =
        let h = keeps_here {T = T} (Err part) keeps in
        record {
          keeps = record {
            told = h.told;
            never_fails = h.never_fails;
            slots = h.slots;
            later = h.later;
            quiet = tt;
            other = λ e is apart. absurd (apart part (sym (same_stop e is)));
            cause = λ p is. subst (λ (q : Part). Rose (old.faults q) (new.faults q)) (same_part p is) (h.cause part refl);
          };
          slots = slots ∙ readied.slots;
          boot = boot ∙ readied.boot;
          cause = stopped;
          going = no_stopped;
          can = tt;
          few = tt;
          silent = silent_here;
          inside = λ told. inside_here (failed_inside (actions_of k) part mid new (mute told) failed (told_at told));
          strange = λ told. tt;
          crash = λ told s agrees fairly. change_crash crash told s agrees;
          done = λ told s agrees fairly. tt;
          bare = λ told s agrees fairly. tt;
        }
      where
        same_stop : (e : Stop) → ◌≡◌ {A = Result Reply Stop} (Err (Fault part)) (Err e) → Fault part ≡ e
        same_stop e is = cc

        same_part : (p : Part) → ◌≡◌ {A = Result Reply Stop} (Err (Fault part)) (Err (Fault p)) → part ≡ p
        same_part p is = cc

        no_stopped : (c : Cause) → ◌≡◌ {A = Result Reply Stop} (Err (Fault part)) (Err (Stopped c)) → ⊥
        no_stopped c e = cc

    -- ---- it was done

    module _ (did : Did mid (actions_of k) new) where
      world_there : IsTrue old.told → new.world ≡ after_all old.world (actions_of k)
      world_there told = did.world (told_at told) ∙ ap (λ (w : World). after_all w (actions_of k)) here

      was_told : IsTrue new.told → IsTrue old.told
      was_told told = subst (λ (b : Bool). IsTrue b) (did.told ∙ same_told old mid same) told

      change_inside : IsTrue old.told → StaysInside old new
      change_inside told = inside_here (plan_inside (actions_of k) mid.world mid new (mute told) (did.past (told_at told)))

      module _ (y : Session) (become : HasBecome x k.commit.to named gone y) where
        -- what is said of the settings and the lists is said of the session's
        moved : (P : Loaded → List Parts → List Parts → Type 0) → P k.commit.to named gone → P y.settings y.named.items y.retired.items
        moved P is =
            subst (λ (l : Loaded). P l y.named.items y.retired.items) (sym become.settings)
            (subst (λ (n : List Parts). P k.commit.to n y.retired.items) (sym become.named)
            (subst (λ (r : List Parts). P k.commit.to named r) (sym become.retired) is))

        module _ (can : CanServe old before) (keeps_named : KeepsNamed x.slots k named) (waits : CanWait (next_of k).users x.pending.items) (files : ArePartNames (files_of gone))
            (left : IsTrue old.told → LeavesKept old.world k named gone) (ready : IsTrue mid.told → IsReady new.world k.commit.to) where
          named_on : (p : Protector) → NamesProtector y.settings.settled.rec p → NamesProtector (next_of k) p
          named_on p has = subst (λ (l : Loaded). NamesProtector l.settled.rec p) become.settings has

          can_next : CanServe new y
          can_next = record {
            going = become.stopped ∙ readied.stopped ∙ can.going;
            slots = become.slots ∙ readied.slots ∙ can.slots ∙ sym (ap (λ (s : Sight). s.slots) same) ∙ sym did.slots;
            each = moved (λ l n r. (p : Protector) → NamesProtector l.settled.rec p → (q : Parts) × Contains n q × IsKeptAs y.slots p q)
                (subst (λ (m : ℕ). (p : Protector) → NamesProtector (next_of k) p → (q : Parts) × Contains named q × IsKeptAs m p q) (sym become.slots) keeps_named.each);
            only = moved (λ l n r. (q : Parts) → Contains n q → (p : Protector) × NamesProtector l.settled.rec p × IsKeptAs y.slots p q)
                (subst (λ (m : ℕ). (q : Parts) → Contains named q → (p : Protector) × NamesProtector (next_of k) p × IsKeptAs m p q) (sym become.slots) keeps_named.only);
            once = subst KeepOnce (sym become.named) keeps_named.once;
            names = subst (λ (r : List Parts). ArePartNames (files_of r)) (sym become.retired) files;
            ready = λ told. subst (IsReady new.world) (sym become.settings) (ready (told_at (was_told told)));
            numbers = λ told p has n held.
                let was = was_told told in
                subst (λ (l : List Parts). Contains l (parts_of (is_some (Some n)) p (Some n))) (sym become.named)
                ((left was).numbers p (named_on p has) n (subst (λ (w : World). held_number w p ≡ Some n) (world_there was) held));
            apart = λ told. subst KeepApart (sym become.named) (left (was_told told)).apart;
            retired = λ told.
                let was = was_told told in
                moved (λ l n r. AreUnnamed new.world l.settled.rec (files_of r))
                (subst (λ (w : World). AreUnnamed w (next_of k) (files_of gone)) (sym (world_there was)) (left was).are_retired);
            waits = moved (λ l n r. CanWait l.settled.rec.users y.pending.items) (subst (CanWait (next_of k).users) (sym become.pending) waits);
          }

        same_session : session_of y ≡ session_of x
        same_session = λ i. record {
          boot = become.boot i;
          opened = users_in (become.opened i);
          pending = map pending_token (become.pending i);
          prepared = become.prepared i;
          captured = users_in (become.captured i);
        }

        module _ (stands : IsTrue mid.told → (now : Vault) → Readies mid.world k now → StandsDurably new.world k.commit.to.settled now)
            (ready : IsTrue mid.told → IsReady new.world k.commit.to) (going : before.stopped ≡ None) where
          agrees_then : IsTrue old.told → (s : State) → Agrees old.world before s → Agrees new.world y (turn (stage_in old.world s)).stage.state
          agrees_then told s agrees =
              let l = leads told s agrees in
              let t = turn (stage_in old.world s) in
              let after = vault_after turn old.world s in
              let there = world_there told in
              let ready_now = subst (λ (w : World). Readies w k after) (sym here) l.readies in
              record {
                keeps = subst (λ (v : Loaded). IsRecord v.settled.rec) (sym become.settings) l.keeps;
                stands = subst (λ (v : Loaded). StandsDurably new.world v.settled after) (sym become.settings) (stands (told_at told) after ready_now);
                ready = subst (IsReady new.world) (sym become.settings) (ready (told_at told));
                books_are = subst (λ (v : Loaded). t.stage.state.books ≡ books new.world v.settled) (sym become.settings)
                    (subst (λ (w : World). t.stage.state.books ≡ books w k.commit.to.settled) (sym there) l.books_are);
                session = same_session ∙ l.session;
                opened = subst (HaveSecrets t.stage.state.vault.users) (sym become.opened) l.opened;
                metrics = subst (HaveMetrics t.stage.state.vault.users) (sym become.opened) l.metrics;
                captured = subst (HaveSecrets t.stage.state.vault.users) (sym become.captured) l.captured;
                named = moved (λ v n r. AreNamed new.world v.settled.rec n)
                    (subst (λ (w : World). AreNamed w (next_of k) named) (sym there) l.are_named);
                slots = (rest_here told).count ∙ agrees.slots ∙ sym readied.slots ∙ sym become.slots;
                retired = moved (λ v n r. AreUnnamed new.world v.settled.rec (files_of r))
                    (subst (λ (w : World). AreUnnamed w (next_of k) (files_of gone)) (sym there) l.are_retired);
                going = become.stopped ∙ readied.stopped ∙ going;
                prepared = λ flag. subst (λ (v : Loaded). v.settled.sequence ≢ last_sequence → v.settled.rec.armed ≡ None) (sym become.settings) (l.prepared (sym become.prepared ∙ flag));
              }

          its_turn : IsTrue old.told → (s : State) → Agrees old.world before s → IsTurn (turn (stage_in old.world s)) Fine y new.world
          its_turn told s agrees =
              let l = leads told s agrees in
              record {
                reply_is = sym l.reply;
                agrees = agrees_then told s agrees;
                moments = ap (λ (w : World). w.moments) (rest_here told).is ∙ sym l.moments;
                noise = ap (λ (w : World). w.noise) (rest_here told).is ∙ sym l.noise;
              }

        bare_before : (start : World) → IsBare start old.world before.settings.settled.rec (retired_files before) → IsBare start old.world x.settings.settled.rec (retired_files x)
        bare_before start bare =
            subst (λ (v : Loaded). IsBare start old.world v.settled.rec (retired_files x)) (sym readied.settings)
            (subst (λ (r : List Parts). IsBare start old.world before.settings.settled.rec (files_of r)) (sym readied.retired) bare)

        bare_next : IsTrue old.told → (s : State) → Agrees old.world before s → StaysBare old.world before new.world y
        bare_next told s agrees start bare =
            moved (λ v n r. IsBare start new.world v.settled.rec (files_of r))
            (subst (λ (w : World). IsBare start w (next_of k) (files_of gone)) (sym (world_there told)) ((leads told s agrees).bare start (bare_before start bare)))

        pub change_done : {T : Type 0} (done : T) → CanServe old before → KeepsNamed x.slots k named → CanWait (next_of k).users x.pending.items → ArePartNames (files_of gone)
            → (IsTrue old.told → LeavesKept old.world k named gone) → Keeps {T = T} {E = Part} (λ p. p) mid new (Ok done) → IsCrash
            → (IsTrue mid.told → (now : Vault) → Readies mid.world k now → StandsDurably new.world k.commit.to.settled now)
            → (IsTrue mid.told → IsReady new.world k.commit.to)
            → Serves old before turn Always (Ok Fine) y new
        change_done {T} done can keeps_named waits files left keeps crash stands ready =
            let h = keeps_here {T = T} (Ok done) keeps in
            record {
              keeps = record {
                told = h.told;
                never_fails = h.never_fails;
                slots = h.slots;
                later = h.later;
                quiet = h.quiet;
                other = λ e is apart. h.quiet;
                cause = λ p is. absurd (cc);
              };
              slots = become.slots ∙ readied.slots;
              boot = become.boot ∙ readied.boot;
              cause = become.stopped ∙ readied.stopped;
              going = no_stopped;
              can = can_next can keeps_named waits files left ready;
              few = omega arith;
              silent = silent_here;
              inside = change_inside;
              strange = λ told. subst (λ (w : World). KeepsStrange old.world w) (sym (world_there told)) (left told).strange;
              crash = λ told s agrees fairly. change_crash crash told s agrees;
              done = λ told s agrees fairly. its_turn stands ready can.going told s agrees;
              bare = λ told s agrees fairly. bare_next told s agrees;
            }
          where
            no_stopped : (c : Cause) → ◌≡◌ {A = Result Reply Stop} (Ok Fine) (Err (Stopped c)) → ⊥
            no_stopped c e = cc
