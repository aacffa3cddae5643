-- A command that goes on behind calls which keep all that a session knows.
use Rattle.std.proofs.Common.{◌≡◌, ◌≢◌, ◌≤◌, ◌⊎◌, inl, ⊎_elim, ℕ, Bool, IsTrue, List, None, Some, refl, sym, ◌∙◌, ap, subst}
use Rattle.std.specs.Prelude.{Result, Ok, Err, IfOk, OnOk}
use Rattle.ls_board.specs.declared.action.Action.{Action}
use Rattle.ls_board.specs.declared.action.Action.TheVariants.{Now, Draw}
use Rattle.ls_board.specs.declared.action.Answer.{Answer}
use Rattle.ls_board.specs.declared.action.BoardFault.{BoardFault}
use Rattle.ls_board.specs.declared.action.BoardFault.TheVariants.{Failed, Memory as Lacking}
use Rattle.ls_board.specs.declared.action.Part.{Part}
use Rattle.ls_board.specs.declared.world.World.{World}
use Rattle.ls_board.specs.Acts.{Sight, Acts, Moves, Rose}
use Rattle.ls_board.specs.Acts as acts
use Rattle.ls_board.specs.Images.{Leaves, Within, changing}
use Rattle.ls_board.specs.Keeping.{Keeps}
use Rattle.ls_board.specs.Runs.{LeavesOnly}
use Rattle.ls_board.proofs.RunLemmas.{started, goes_on, joins, weaker, readied}
use Rattle.ls_board.proofs.StepLemmas.{stays}
use Rattle.ls_reading.specs.Reading.{Reads}
use Rattle.ls_script.specs.declared.reply.Reply.{Reply}
use Rattle.ls_serving.specs.Calls.{IsSilent}
use Rattle.ls_serving.specs.Turns.{IsInside, StaysInside}
use Rattle.ls_serving.proofs.MetLemmas.{met_back}
use Rattle.ls_serving.proofs.TurnLemmas.{inside_extends, inside-refl, inside-trans}
use Rattle.ls_standing.proofs.QuietLemmas.{durably_left}
use Rattle.ls_vault.specs.declared.state.State.{State}
use Rattle.ls_vault.specs.declared.vault.Vault.{Vault}
use Rattle.ls_vault.specs.Script.{Stage}
use Rattle.ls_turn.specs.declared.session.Session.{Session}
use Rattle.ls_turn.specs.declared.stop.Cause.{Cause}
use Rattle.ls_turn.specs.declared.stop.Cause.TheVariants as cause
use Rattle.ls_turn.specs.declared.stop.Stop.{Stop}
use Rattle.ls_turn.specs.declared.stop.Stop.TheVariants.{Fault, Memory, Stopped}
use Rattle.ls_turn.specs.Agreeing.{Agrees, retired_files}
use Rattle.ls_turn.proofs.InsideLemmas.{call_inside, reads_inside, room_inside}
use Rattle.ls_turn.specs.Serving.{Turned, IsBetween, IsTurn, KeepsStrange, MeetsFair, StandsSomehow, StaysBare, Serves, stage_in, stopped_by, vault_after}
use Rattle.ls_turn.proofs.StoredLemmas.{KeepsStorage, storage_refl, storage_trans, now_stores, draw_stores, stored_durably, stored_bare, stored_strange, stored_agrees}

-- ---- calls that keep it

-- an image of a world with the same storage, in which as much was heard and said
pub record LeavesStored (w image : World) : Type 0 where
  pub met : World
  pub storage : KeepsStorage w met
  pub silent : IsSilent w met
  pub left : Leaves met image

-- No call between the two failed, and none heard, said or changed what is stored.
pub record KeepsSession (old new : Sight) : Type 0 where
  pub told : new.told ≡ old.told
  pub never_fails : new.never_fails ≡ old.never_fails
  pub slots : new.slots ≡ old.slots
  pub faults : new.faults ≡ old.faults
  pub inside : IsTrue old.told → StaysInside old new
  pub silent : IsTrue old.told → IsSilent old.world new.world
  pub storage : IsTrue old.told → KeepsStorage old.world new.world
  pub crash : IsTrue old.told → LeavesOnly old new (LeavesStored old.world)

pub silent-refl : (w : World) → IsSilent w w
silent-refl w = record { said = refl; input = refl }

pub silent-trans : (u v w : World) → IsSilent u v → IsSilent v w → IsSilent u w
silent-trans u v w one two = record { said = two.said ∙ one.said; input = two.input ∙ one.input }

pub left_stored : (w image : World) → Leaves w image → LeavesStored w image
left_stored w image left = record { met = w; storage = storage_refl w; silent = silent-refl w; left = left }

stored_behind : (u w image : World) → KeepsStorage u w → IsSilent u w → LeavesStored w image → LeavesStored u image
stored_behind u w image kept silent l = record {
  met = l.met;
  storage = storage_trans u w l.met kept l.storage;
  silent = silent-trans u w l.met silent l.silent;
  left = l.left;
}

still_told : (old new : Sight) → new.told ≡ old.told → IsTrue old.told → IsTrue new.told
still_told old new same told = subst (λ (b : Bool). IsTrue b) (sym same) told

-- no call
pub keeps_none : (s : Sight) → KeepsSession s s
keeps_none s = record {
  told = refl;
  never_fails = refl;
  slots = refl;
  faults = refl;
  inside = λ told. inside-refl s;
  silent = λ told. silent-refl s.world;
  storage = λ told. storage_refl s.world;
  crash = λ told. started s (LeavesStored s.world) (left_stored s.world);
}

-- some behind others
pub keeps_then : (a b c : Sight) → KeepsSession a b → KeepsSession b c → KeepsSession a c
keeps_then a b c one two = record {
  told = two.told ∙ one.told;
  never_fails = two.never_fails ∙ one.never_fails;
  slots = two.slots ∙ one.slots;
  faults = two.faults ∙ one.faults;
  inside = λ told. inside-trans a b c (one.inside told) (two.inside (still_told a b one.told told));
  silent = λ told. silent-trans a.world b.world c.world (one.silent told) (two.silent (still_told a b one.told told));
  storage = λ told. storage_trans a.world b.world c.world (one.storage told) (two.storage (still_told a b one.told told));
  crash = λ told.
      joins a b c (LeavesStored a.world) (one.crash told)
      (weaker b c (LeavesStored b.world) (LeavesStored a.world) (λ image. stored_behind a.world b.world image (one.storage told) (one.silent told))
      (two.crash (still_told a b one.told told)));
}

-- more room
pub keeps_room : (old new : Sight) {E : Type 0} (actions bytes : ℕ) (result : Result (Unit {0}) E) → acts.Readies old actions bytes result new → KeepsSession old new
keeps_room old new actions bytes result room = record {
  told = ap (λ (s : Sight). s.told) room.same;
  never_fails = ap (λ (s : Sight). s.never_fails) room.same;
  slots = ap (λ (s : Sight). s.slots) room.same;
  faults = ap (λ (s : Sight). s.faults) room.same;
  inside = λ told. room_inside old new actions bytes result room;
  silent = λ told. record { said = ap (λ (s : Sight). s.world.said) room.same; input = ap (λ (s : Sight). s.world.input) room.same };
  storage = λ told. subst (λ (w : World). KeepsStorage old.world w) (sym (ap (λ (s : Sight). s.world) room.same)) (storage_refl old.world);
  crash = λ told. readied old old new (LeavesStored old.world) actions bytes result (started old (LeavesStored old.world) (left_stored old.world)) room;
}

-- ---- calls that only read

module _ {T : Type 0} (P : World → T → Type 0) (old new : Sight) (result : Result T BoardFault) (reads : Reads P old result new) where
  reading_inside : IsTrue old.told → StaysInside old new
  reading_inside told = reads_inside old new (reads.calls told)

  reading_silent : IsTrue old.told → IsSilent old.world new.world
  reading_silent told = subst (λ (w : World). IsSilent old.world w) (sym (reads.same told)) (silent-refl old.world)

  reading_crash : IsTrue old.told → LeavesOnly old new (LeavesStored old.world)
  reading_crash told = weaker old new (Leaves old.world) (LeavesStored old.world) (left_stored old.world) (reads.crash told)

-- ---- a taking of a moment or of noise

abbrev pub IsTaking : Action → Type 0
IsTaking Now = Unit {0}
IsTaking (Draw len) = Unit {0}
IsTaking _ = ⊥

taken_stores : (w mid : World) (a : Action) → IsTaking a → Within w a mid → KeepsStorage w mid
taken_stores w mid Now is within = now_stores w mid within
taken_stores w mid (Draw len) is within = draw_stores w mid len within
taken_stores w mid a is within = absurd is

taken_silent : (w mid : World) (a : Action) → IsTaking a → Within w a mid → IsSilent w mid
taken_silent w mid Now is within =
    ⊎_elim (λ same. record { said = ap (λ (u : World). u.said) same; input = ap (λ (u : World). u.input) same })
    (λ done. record { said = ap (λ (u : World). u.said) done; input = ap (λ (u : World). u.input) done }) within
taken_silent w mid (Draw len) is within = record { said = ap (λ (u : World). u.said) within.is; input = ap (λ (u : World). u.input) within.is }
taken_silent w mid a is within = absurd is

taking_call : (w : World) (a : Action) → IsTaking a → IsInside (w, changing a)
taking_call w Now is = record { no_hear = λ max e. cc; no_say = λ bytes e. cc }
taking_call w (Draw len) is = record { no_hear = λ max e. cc; no_say = λ bytes e. cc }
taking_call w a is = absurd is

module _ (old new : Sight) (a : Action) (result : Result Answer BoardFault) (out : List ℕ) (is : IsTaking a) (m : Moves old a result out new) where
  taking_inside : StaysInside old new
  taking_inside = call_inside old new a result out (λ w. taking_call w a is) m

  taking_storage : KeepsStorage old.world new.world
  taking_storage =
      ⊎_elim (λ (some : Within old.world a new.world). taken_stores old.world new.world a is some)
      (λ (same : new.world ≡ old.world). subst (λ (w : World). KeepsStorage old.world w) (sym same) (storage_refl old.world)) (stays old a result out new m)

  taking_silent : IsSilent old.world new.world
  taking_silent =
      ⊎_elim (λ (some : Within old.world a new.world). taken_silent old.world new.world a is some)
      (λ (same : new.world ≡ old.world). subst (λ (w : World). IsSilent old.world w) (sym same) (silent-refl old.world)) (stays old a result out new m)

  taking_crash : LeavesOnly old new (LeavesStored old.world)
  taking_crash = goes_on old old new a result out (LeavesStored old.world) (started old (LeavesStored old.world) (left_stored old.world)) m
      (λ image within. record {
        met = within.0;
        storage = taken_stores old.world within.0 a is within.1;
        silent = taken_silent old.world within.0 a is within.1;
        left = within.2;
      })

pub keeps_taking : (old new : Sight) (a : Action) (answer : Answer) (out : List ℕ) → IsTaking a → Acts old a (Ok answer) out new → KeepsSession old new
keeps_taking old new a answer out is done = record {
  told = done.told;
  never_fails = done.never_fails;
  slots = done.slots;
  faults = done.quiet;
  inside = λ told. taking_inside old new a (Ok answer) out is (done.moves told);
  silent = λ told. taking_silent old new a (Ok answer) out is (done.moves told);
  storage = λ told. taking_storage old new a (Ok answer) out is (done.moves told);
  crash = λ told. taking_crash old new a (Ok answer) out is (done.moves told);
}

pub keeps_reading : {T : Type 0} (P : World → T → Type 0) (old new : Sight) (t : T) → Reads P old (Ok t) new → KeepsSession old new
keeps_reading P old new t reads = record {
  told = reads.keeps.told;
  never_fails = reads.keeps.never_fails;
  slots = reads.keeps.slots;
  faults = reads.keeps.quiet;
  inside = reading_inside P old new (Ok t) reads;
  silent = reading_silent P old new (Ok t) reads;
  storage = λ told. subst (λ (w : World). KeepsStorage old.world w) (sym (reads.same told)) (storage_refl old.world);
  crash = reading_crash P old new (Ok t) reads;
}

-- ---- a command that stops there

abbrev IsEither : Vault → Vault → World → Type 0
IsEither old new image = StandsSomehow image old ⊎ StandsSomehow image new

left_between_stored : (w image : World) (x : Session) (s : State) (then : Vault) → Agrees w x s → LeavesStored w image → IsBetween w s.vault then image
left_between_stored w image x s then agrees l = record {
  either = inl (x.settings.settled, durably_left l.met image x.settings.settled s.vault (stored_durably w l.met l.storage x.settings.settled s.vault agrees.stands) l.left);
  silent = record {
    said = ap (λ (u : World). u.said) l.left.rest ∙ l.silent.said;
    input = ap (λ (u : World). u.input) l.left.rest ∙ l.silent.input;
  };
}

module _ (old new : Sight) (x y : Session) (turn : Stage → Turned) (fair : World → State → Type 0) where
  -- images of these calls stand for the vault before
  between_stored : (s : State) → Agrees old.world x s → LeavesOnly old new (LeavesStored old.world) → LeavesOnly old new (IsBetween old.world s.vault (vault_after turn old.world s))
  between_stored s agrees crash = weaker old new (LeavesStored old.world) (IsBetween old.world s.vault (vault_after turn old.world s))
      (λ image. left_between_stored old.world image x s (vault_after turn old.world s) agrees) crash

  pub stops : (stop : Stop) → ((c : Cause) → stop ≢ Stopped c) → y.slots ≡ x.slots → y.boot ≡ x.boot → y.stopped ≡ stopped_by stop x.stopped
      → Keeps {T = Reply} {E = Stop} Fault old new (Err stop) → (IsTrue old.told → IsSilent old.world new.world) → (IsTrue old.told → StaysInside old new)
      → (IsTrue old.told → LeavesOnly old new (LeavesStored old.world)) → Serves old x turn fair (Err stop) y new
  stops stop fresh slots boot stopped keeps silent inside crash = record {
    keeps = keeps;
    slots = slots;
    boot = boot;
    cause = stopped;
    going = λ c is. fresh c (same_stop c is);
    can = tt;
    few = tt;
    silent = silent;
    inside = inside;
    strange = λ told. tt;
    crash = λ told s agrees fairly. between_stored s agrees (crash told);
    done = λ told s agrees fairly. tt;
    bare = λ told s agrees fairly. tt;
  }
    where
      same_stop : (c : Cause) → ◌≡◌ {A = Result Reply Stop} (Err stop) (Err (Stopped c)) → stop ≡ Stopped c
      same_stop c is = cc

  module _ (slots : y.slots ≡ x.slots) (boot : y.boot ≡ x.boot) where
    -- a call of such an action failed
    pub taking_failed : (a : Action) (p : Part) (out : List ℕ) → IsTaking a → Acts old a (Err (Failed p)) out new → y.stopped ≡ Some (cause.Fault p) → Serves old x turn fair (Err (Fault p)) y new
    taking_failed a p out is failed stopped =
        stops (Fault p) (λ c e. cc) slots boot stopped (record {
          told = failed.told;
          never_fails = failed.never_fails;
          slots = failed.slots;
          later = failed.later;
          quiet = tt;
          other = λ e at apart. absurd (apart p (sym (same_stop e at)));
          cause = λ q at. subst (λ (r : Part). Rose (old.faults r) (new.faults r)) (same_part q at) (failed.cause p refl).1;
        }) (λ told. taking_silent old new a (Err (Failed p)) out is (failed.moves told)) (λ told. taking_inside old new a (Err (Failed p)) out is (failed.moves told)) (λ told. taking_crash old new a (Err (Failed p)) out is (failed.moves told))
      where
        same_stop : (e : Stop) → ◌≡◌ {A = Result Reply Stop} (Err (Fault p)) (Err e) → Fault p ≡ e
        same_stop e at = cc

        same_part : (q : Part) → ◌≡◌ {A = Result Reply Stop} (Err (Fault p)) (Err (Fault q)) → p ≡ q
        same_part q at = cc

    -- it found no memory
    pub taking_lacked : (a : Action) (out : List ℕ) → IsTaking a → Acts old a (Err Lacking) out new → y.stopped ≡ Some cause.Memory → Serves old x turn fair (Err Memory) y new
    taking_lacked a out is lacked stopped =
        stops Memory (λ c e. cc) slots boot stopped (record {
          told = lacked.told;
          never_fails = lacked.never_fails;
          slots = lacked.slots;
          later = lacked.later;
          quiet = tt;
          other = λ e at apart. (lacked.memory refl).1;
          cause = λ q at. absurd (cc);
        }) (λ told. taking_silent old new a (Err Lacking) out is (lacked.moves told)) (λ told. taking_inside old new a (Err Lacking) out is (lacked.moves told)) (λ told. taking_crash old new a (Err Lacking) out is (lacked.moves told))

    -- a reading failed
    pub reading_failed : {T : Type 0} (P : World → T → Type 0) (p : Part) → Reads P old (Err (Failed p)) new → y.stopped ≡ Some (cause.Fault p) → Serves old x turn fair (Err (Fault p)) y new
    reading_failed P p reads stopped =
        stops (Fault p) (λ c e. cc) slots boot stopped (record {
          told = reads.keeps.told;
          never_fails = reads.keeps.never_fails;
          slots = reads.keeps.slots;
          later = reads.keeps.later;
          quiet = tt;
          other = λ e at apart. absurd (apart p (sym (same_stop e at)));
          cause = λ q at. subst (λ (r : Part). Rose (old.faults r) (new.faults r)) (same_part q at) (reads.keeps.cause p refl);
        }) (reading_silent P old new (Err (Failed p)) reads) (reading_inside P old new (Err (Failed p)) reads) (reading_crash P old new (Err (Failed p)) reads)
      where
        same_stop : (e : Stop) → ◌≡◌ {A = Result Reply Stop} (Err (Fault p)) (Err e) → Fault p ≡ e
        same_stop e at = cc

        same_part : (q : Part) → ◌≡◌ {A = Result Reply Stop} (Err (Fault p)) (Err (Fault q)) → p ≡ q
        same_part q at = cc

    -- or found no memory
    pub reading_lacked : {T : Type 0} (P : World → T → Type 0) → Reads P old (Err Lacking) new → y.stopped ≡ Some cause.Memory → Serves old x turn fair (Err Memory) y new
    reading_lacked {T} P reads stopped =
        stops Memory (λ c e. cc) slots boot stopped (record {
          told = reads.keeps.told;
          never_fails = reads.keeps.never_fails;
          slots = reads.keeps.slots;
          later = reads.keeps.later;
          quiet = tt;
          other = λ e at apart. reads.keeps.other Lacking refl (λ p is. cc);
          cause = λ q at. absurd (cc);
        }) (reading_silent P old new (Err Lacking) reads) (reading_inside P old new (Err Lacking) reads) (reading_crash P old new (Err Lacking) reads)

-- ---- a command that goes on

on_map : {T E P Q : Type 0} (r : Result T E) → (P → Q) → OnOk r P → OnOk r Q
on_map (Ok t) f h = f h
on_map (Err e) f h = tt

if_map : {T E : Type 0} (P Q : T → Type 0) (r : Result T E) → ((t : T) → P t → Q t) → IfOk r P → IfOk r Q
if_map P Q (Ok t) f h = f t h
if_map P Q (Err e) f h = tt

module _ (old mid new : Sight) (x y : Session) (turn then : Stage → Turned) (fair : World → State → Type 0) (result : Result Reply Stop) (kept : KeepsSession old mid)
    (same : IsTrue old.told → (s : State) → Agrees old.world x s → turn (stage_in old.world s) ≡ then (stage_in mid.world s)) (serves : Serves mid x then fair result y new) where
  told_mid : IsTrue old.told → IsTrue mid.told
  told_mid told = still_told old mid kept.told told

  agrees_mid : IsTrue old.told → (s : State) → Agrees old.world x s → Agrees mid.world x s
  agrees_mid told s agrees = stored_agrees old.world mid.world (kept.storage told) x s agrees

  fair_mid : IsTrue old.told → (s : State) → MeetsFair fair old new s → MeetsFair fair mid new s
  fair_mid told s fairly w met stands = fairly w (met_back old mid new w (inside_extends old mid (kept.inside told)) met) stands

  behind_keeps : Keeps {T = Reply} {E = Stop} Fault old new result
  behind_keeps = record {
    told = serves.keeps.told ∙ kept.told;
    never_fails = serves.keeps.never_fails ∙ kept.never_fails;
    slots = serves.keeps.slots ∙ kept.slots;
    later = λ p. subst (λ (f : Part → ℕ). f p ≤ new.faults p) kept.faults (serves.keeps.later p);
    quiet = subst (λ (f : Part → ℕ). OnOk result (new.faults ≡ f)) kept.faults serves.keeps.quiet;
    other = λ e is apart. serves.keeps.other e is apart ∙ kept.faults;
    cause = λ p is. subst (λ (f : Part → ℕ). Rose (f p) (new.faults p)) kept.faults (serves.keeps.cause p is);
  }

  behind_crash : IsTrue old.told → (s : State) → Agrees old.world x s → MeetsFair fair old new s → LeavesOnly old new (IsBetween old.world s.vault (vault_after turn old.world s))
  behind_crash told s agrees fairly =
      let before = vault_after then mid.world s in
      let after = vault_after turn old.world s in
      let is : before ≡ after = ap (λ (t : Turned). t.stage.state.vault) (sym (same told s agrees)) in
      joins old mid new (IsBetween old.world s.vault after) (between_stored old mid x y turn fair s agrees (kept.crash told))
      (weaker mid new (IsBetween mid.world s.vault before) (IsBetween old.world s.vault after)
      (λ image b. record {
        either = subst (λ (v : Vault). IsEither s.vault v image) is b.either;
        silent = silent-trans old.world mid.world image (kept.silent told) b.silent;
      })
      (serves.crash (told_mid told) s (agrees_mid told s agrees) (fair_mid told s fairly)))

  pub behind : Serves old x turn fair result y new
  behind = record {
    keeps = behind_keeps;
    slots = serves.slots;
    boot = serves.boot;
    cause = serves.cause;
    going = serves.going;
    can = serves.can;
    few = serves.few;
    silent = λ told. silent-trans old.world mid.world new.world (kept.silent told) (serves.silent (told_mid told));
    inside = λ told. inside-trans old mid new (kept.inside told) (serves.inside (told_mid told));
    strange = λ told. on_map result
        (λ (later : KeepsStrange mid.world new.world) n strange. later n strange ∙ stored_strange old.world mid.world (kept.storage told) n strange)
        (serves.strange (told_mid told));
    crash = behind_crash;
    done = λ told s agrees fairly.
        if_map (λ r. IsTurn (then (stage_in mid.world s)) r y new.world) (λ r. IsTurn (turn (stage_in old.world s)) r y new.world) result
        (λ r is. subst (λ (t : Turned). IsTurn t r y new.world) (sym (same told s agrees)) is)
        (serves.done (told_mid told) s (agrees_mid told s agrees) (fair_mid told s fairly));
    bare = λ told s agrees fairly.
        on_map result
        (λ (later : StaysBare mid.world x new.world y) start bare. later start (stored_bare old.world mid.world (kept.storage told) start x.settings.settled.rec (retired_files x) bare))
        (serves.bare (told_mid told) s (agrees_mid told s agrees) (fair_mid told s fairly));
  }
