-- A step of tidying: room is made, and a file that the record doesn't name is removed.
use Rattle.std.proofs.Common.{◌≡◌, ◌≢◌, ◌≤◌, ⊎_elim, ℕ, Bool, IsTrue, List, [], ◌∷◌, Some, refl, sym, ◌∙◌, ap, subst, arith}
use Rattle.std.specs.Prelude.{Result, Ok, Err, OnOk}
use Rattle.std.specs.List.{Contains}
use Rattle.ls_board.specs.declared.action.Action.{Action}
use Rattle.ls_board.specs.declared.action.Action.TheVariants.{Remove}
use Rattle.ls_board.specs.declared.action.Part.{Part}
use Rattle.ls_board.specs.declared.world.World.{World}
use Rattle.ls_board.specs.Acts.{Sight, Rose}
use Rattle.ls_board.specs.Acts as acts
use Rattle.ls_board.specs.Effect.{after}
use Rattle.ls_board.specs.Images.{Leaves}
use Rattle.ls_board.specs.Keeping.{Keeps}
use Rattle.ls_board.specs.Reach.{SameBut}
use Rattle.ls_board.specs.Runs.{LeavesOnly, Did, FailedIn, PlanImage, after_all}
use Rattle.ls_board.proofs.RestLemmas.{plan_left_rest, rest_refl}
use Rattle.ls_board.proofs.RunLemmas.{started, weaker}
use Rattle.ls_naming.specs.Current.{Foreign, Settled}
use Rattle.ls_naming.specs.Named.{NamesFile}
use Rattle.ls_protector.specs.Clear.{AreUnnamed, AreUnnamedOn}
use Rattle.ls_protector.specs.Parts.{first_removed, reach_of_names}
use Rattle.ls_protector.proofs.PartLemmas.{first_touch}
use Rattle.ls_protector.proofs.StandLemmas.{names_inside}
use Rattle.ls_sealing.specs.Protectors.{Protector, has_weaver, held_number}
use Rattle.ls_serving.specs.Turns.{StaysInside}
use Rattle.ls_serving.proofs.TurnLemmas.{inside-refl}
use Rattle.ls_standing.specs.Bare.{IsBare}
use Rattle.ls_standing.specs.NamedProtectors.{NamesProtector}
use Rattle.ls_standing.specs.Quiet.{AllQuiet}
use Rattle.ls_standing.specs.Standing.{StandsDurably}
use Rattle.ls_standing.proofs.BareLemmas.{tidied as tidied_bare}
use Rattle.ls_standing.proofs.FrameLemmas.{durably_same}
use Rattle.ls_standing.proofs.QuietLemmas.{durably_left, plan_cut}
use Rattle.ls_standing.proofs.TouchLemmas.{all_touch_more, all_quiet}
use Rattle.ls_vault.specs.declared.state.State.{State}
use Rattle.ls_vault.specs.declared.vault.Vault.{Vault}
use Rattle.ls_turn.specs.declared.session.Session.{Session}
use Rattle.ls_turn.specs.declared.stop.Cause.{Cause}
use Rattle.ls_turn.specs.declared.stop.Cause.TheVariants as cause
use Rattle.ls_turn.specs.declared.stop.Stop.{Stop}
use Rattle.ls_turn.specs.declared.stop.Stop.TheVariants.{Fault, Memory, Stopped}
use Rattle.ls_turn.specs.Agreeing.{Agrees, ArePartNames, retired_files}
use Rattle.ls_turn.specs.Serving.{CanServe, KeepsStrange, StaysBare, StandsSomehow}
use Rattle.ls_turn.proofs.BehindLemmas.{keeps_room, silent-refl}
use Rattle.ls_turn.proofs.InsideLemmas.{IsMute, all_mute, plan_inside, failed_inside}
use Rattle.ls_turn.proofs.StoredLemmas.{stored_can}
use Rattle.ls_tidying.specs.Tidying.{IsStill, KeepsTape, OnlyTidies}
use Rattle.ls_tidying.proofs.StayLemmas.{stays_named, stays_settings, stays_ready, stays_unnamed, stays_number, stays_kept, stays_books, stays_strange, stays_silent, stays_tape}

-- ---- more room

abbrev pub roomier : Sight → ℕ → ℕ → Sight
roomier old actions bytes = record old { actions = actions; bytes = bytes }

left_roomier : (old new : Sight) (actions bytes : ℕ) (P : World → Type 0) → LeavesOnly (roomier old actions bytes) new P → LeavesOnly old new P
left_roomier old new actions bytes P l = record { calls = l.calls; joined = l.joined; each = l.each; now = l.now }

inside_roomier : (old new : Sight) (actions bytes : ℕ) → StaysInside (roomier old actions bytes) new → StaysInside old new
inside_roomier old new actions bytes i = record { calls = i.calls; since = i.since; each = i.each }

-- the room doesn't matter
only_roomier : {T : Type 0} (old new : Sight) (x y : Session) (result : Result T Stop) (actions bytes : ℕ) → OnlyTidies {T = T} (roomier old actions bytes) x result y new → OnlyTidies {T = T} old x result y new
only_roomier old new x y result actions bytes t = record {
  keeps = record {
    told = t.keeps.told;
    never_fails = t.keeps.never_fails;
    slots = t.keeps.slots;
    later = t.keeps.later;
    quiet = t.keeps.quiet;
    other = t.keeps.other;
    cause = t.keeps.cause;
  };
  cause = t.cause;
  going = t.going;
  rest = t.rest;
  can = t.can;
  silent = t.silent;
  tape = t.tape;
  inside = λ told. inside_roomier old new actions bytes (t.inside told);
  strange = t.strange;
  agrees = t.agrees;
  crash = λ told s agrees. left_roomier old new actions bytes (IsStill old.world s.vault) (t.crash told s agrees);
  bare = t.bare;
}

module _ (old mid : Sight) {E : Type 0} (actions bytes : ℕ) (made : Result (Unit {0}) E) (room : acts.Readies old actions bytes made mid) where
  pub can_roomed : (x : Session) → CanServe old x → CanServe mid x
  can_roomed x can =
      let kept = keeps_room old mid actions bytes made room in
      stored_can old mid x kept.told kept.slots kept.storage can

  pub only_roomed : {T : Type 0} (x y : Session) (result : Result T Stop) (new : Sight) → OnlyTidies {T = T} mid x result y new → OnlyTidies {T = T} old x result y new
  only_roomed {T} x y result new t = only_roomier {T = T} old new x y result mid.actions mid.bytes (subst (λ (s : Sight). OnlyTidies {T = T} s x result y new) room.same t)

-- what was retired isn't named, by whatever settings the world stands
pub unnamed_on : (b : Sight) (x : Session) → CanServe b x → (names : List (List ℕ)) → ((n : List ℕ) → Contains names n → Contains (retired_files x) n) → AreUnnamedOn b names
unnamed_on b x can names its told s v stands n has =
    let same : Ok x.settings.settled ≡ Ok s = sym (can.ready told).are.settled ∙ stands.stands.settings in
    subst (λ (t : Settled). AreUnnamed b.world t.rec names) (inside s same) (λ m within. can.retired told m (its m within)) n has
  where
    inside : (t : Settled) → ◌≡◌ {A = Result Settled Foreign} (Ok x.settings.settled) (Ok t) → x.settings.settled ≡ t
    inside t e = cc

-- ---- an image

still_left : (w image : World) (x : Session) (s : State) → Agrees w x s → Leaves w image → IsStill w s.vault image
still_left w image x s agrees left = record {
  stands = (x.settings.settled, durably_left w image x.settings.settled s.vault agrees.stands left);
  silent = record { said = ap (λ (v : World). v.said) left.rest; input = ap (λ (v : World). v.input) left.rest };
}

-- ---- no call

abbrev NoCause : {T : Type 0} → Result T Stop → Type 0
NoCause {T} result = (c : Cause) → result ≡ Err (Stopped c) → ⊥

-- there was no memory
module _ (s : Sight) (x y : Session) (same : y ≡ record x { retired = y.retired; stopped = y.stopped }) where
  pub nothing_fits : {T : Type 0} → y.stopped ≡ Some cause.Memory → OnlyTidies {T = T} s x (Err Memory) y s
  nothing_fits {T} stopped = record {
    keeps = record {
      told = refl;
      never_fails = refl;
      slots = refl;
      later = λ p. omega arith;
      quiet = tt;
      other = λ e is apart. refl;
      cause = λ p is. absurd (no_fault p is);
    };
    cause = stopped;
    going = no_cause;
    rest = same;
    can = tt;
    silent = λ told. silent-refl s.world;
    tape = λ told. record { moments = refl; noise = refl };
    inside = λ told. inside-refl s;
    strange = λ told. tt;
    agrees = λ told state agrees. tt;
    crash = λ told state agrees. started s (IsStill s.world state.vault) (λ image left. still_left s.world image x state agrees left);
    bare = λ told state agrees. tt;
  }
    where
      no_fault : (p : Part) → ◌≡◌ {A = Result T Stop} (Err Memory) (Err (Fault p)) → ⊥
      no_fault p is = cc

      no_cause : (c : Cause) → ◌≡◌ {A = Result T Stop} (Err Memory) (Err (Stopped c)) → ⊥
      no_cause c is = cc

-- there was nothing to do
pub nothing_left : {T : Type 0} (s : Sight) (x : Session) (t : T) → CanServe s x → OnlyTidies {T = T} s x (Ok t) x s
nothing_left {T} s x t can = record {
  keeps = record {
    told = refl;
    never_fails = refl;
    slots = refl;
    later = λ p. omega arith;
    quiet = refl;
    other = λ e is apart. refl;
    cause = λ p is. absurd (no_fault p is);
  };
  cause = refl;
  going = no_cause;
  rest = refl;
  can = can;
  silent = λ told. silent-refl s.world;
  tape = λ told. record { moments = refl; noise = refl };
  inside = λ told. inside-refl s;
  strange = λ told n strange. refl;
  agrees = λ told state agrees. agrees;
  crash = λ told state agrees. started s (IsStill s.world state.vault) (λ image left. still_left s.world image x state agrees left);
  bare = λ told state agrees start bare. bare;
}
  where
    no_fault : (p : Part) → ◌≡◌ {A = Result T Stop} (Ok t) (Err (Fault p)) → ⊥
    no_fault p is = cc

    no_cause : (c : Cause) → ◌≡◌ {A = Result T Stop} (Ok t) (Err (Stopped c)) → ⊥
    no_cause c is = cc

-- ---- a removal

-- the first of these names, and then those
abbrev pub first_and : List (List ℕ) → List (List ℕ) → List (List ℕ)
first_and [] then = then
first_and (n ∷ names) then = n ∷ then

-- what is bare stays so with more that is retired
bare_more : (start w : World) (r : _) (old new : List (List ℕ)) → ((n : List ℕ) → Contains old n → Contains new n) → IsBare start w r old → IsBare start w r new
bare_more start w r old new more bare = record {
  files = λ name is un gone. bare.files name is un (λ has. gone (more _ has));
  strange = bare.strange;
  slots = bare.slots;
  counters = bare.counters;
  keys = bare.keys;
  cell = bare.cell;
}

module _ (old new : Sight) (x y : Session) (same : y ≡ record x { retired = y.retired; stopped = y.stopped }) (names : List (List ℕ))
    (its : (n : List ℕ) → Contains names n → Contains (retired_files x) n) (can : CanServe old x)
    (crash : IsTrue old.told → LeavesOnly old new (PlanImage old.world (first_removed names)))
    (but : IsTrue old.told → SameBut (reach_of_names names) old.world new.world) where
  clear : IsTrue old.told → AreUnnamed old.world x.settings.settled.rec names
  clear told n has = can.retired told n (its n has)

  -- each image
  still : (told : IsTrue old.told) (s : State) (image : World) → Agrees old.world x s → PlanImage old.world (first_removed names) image → IsStill old.world s.vault image
  still told s image agrees left =
      let quiet : AllQuiet old.world x.settings.settled.rec (first_removed names) =
      all_quiet old.world x.settings.settled.rec (first_removed names)
      (all_touch_more (reach_of_names names) _ (names_inside old.world x.settings.settled.rec names (clear told)) (first_removed names) (first_touch names)) in
      let rest = plan_left_rest (reach_of_names names) old.world old.world (first_removed names) (rest_refl old.world) (first_touch names) image left in
      record {
        stands = (x.settings.settled, plan_cut x.settings.settled s.vault old.world image (first_removed names) agrees.stands quiet left);
        silent = record { said = ap (λ (v : World). v.said) rest.is; input = ap (λ (v : World). v.input) rest.is };
      }

  all_still : IsTrue old.told → (s : State) → Agrees old.world x s → LeavesOnly old new (IsStill old.world s.vault)
  all_still told s agrees = weaker old new (PlanImage old.world (first_removed names)) (IsStill old.world s.vault) (λ image left. still told s image agrees left) (crash told)

  -- it failed
  pub failed_only : (part : Part) → y.stopped ≡ Some (cause.Fault part) → FailedIn old (first_removed names) part new
      → Keeps {T = Bool} {E = Part} (λ p. p) old new (Err part) → OnlyTidies {T = Bool} old x (Err (Fault part)) y new
  failed_only part stopped failed keeps = record {
    keeps = record {
      told = keeps.told;
      never_fails = keeps.never_fails;
      slots = keeps.slots;
      later = keeps.later;
      quiet = tt;
      other = λ e is apart. absurd (apart part (sym (same_stop e is)));
      cause = λ p is. subst (λ (q : Part). Rose (old.faults q) (new.faults q)) (same_part p is) (keeps.cause part refl);
    };
    cause = stopped;
    going = no_cause;
    rest = same;
    can = tt;
    silent = λ told. stays_silent old.world new.world x.settings.settled.rec names (clear told) (but told);
    tape = λ told. stays_tape old.world new.world x.settings.settled.rec names (clear told) (but told);
    inside = λ told. failed_inside (first_removed names) part old new (all_mute (reach_of_names names) (first_removed names) (first_touch names)) failed told;
    strange = λ told. tt;
    agrees = λ told s agrees. tt;
    crash = all_still;
    bare = λ told s agrees. tt;
  }
    where
      same_stop : (e : Stop) → ◌≡◌ {A = Result Bool Stop} (Err (Fault part)) (Err e) → Fault part ≡ e
      same_stop e is = cc

      same_part : (p : Part) → ◌≡◌ {A = Result Bool Stop} (Err (Fault part)) (Err (Fault p)) → part ≡ p
      same_part p is = cc

      no_cause : (c : Cause) → ◌≡◌ {A = Result Bool Stop} (Err (Fault part)) (Err (Stopped c)) → ⊥
      no_cause c is = cc

  -- it was done
  module _ (stopped : y.stopped ≡ x.stopped) (did : Did old (first_removed names) new)
      (fewer : (n : List ℕ) → Contains (retired_files y) n → Contains (retired_files x) n)
      (more : (n : List ℕ) → Contains (retired_files x) n → Contains (first_and names (retired_files y)) n) where
    abbrev z : Session
    z = record x { retired = y.retired; stopped = y.stopped }

    was_told : IsTrue new.told → IsTrue old.told
    was_told told = subst (λ (b : Bool). IsTrue b) did.told told

    unnamed_now : IsTrue old.told → AreUnnamed new.world x.settings.settled.rec (retired_files y)
    unnamed_now told =
        stays_unnamed old.world new.world x.settings.settled.rec names (clear told) (but told) (retired_files y) (λ n has. can.retired told n (fewer n has))

    can_now : CanServe new z
    can_now = record {
      going = stopped ∙ can.going;
      slots = can.slots ∙ sym did.slots;
      each = can.each;
      only = can.only;
      once = can.once;
      names = λ n has. can.names n (fewer n has);
      ready = λ told. let was = was_told told in stays_ready old.world new.world x.settings.settled.rec names (clear was) (but was) x.settings (can.ready was);
      numbers = λ told p named n held.
          let was = was_told told in
          can.numbers was p named n (sym (stays_number old.world new.world x.settings.settled.rec names (clear was) (but was) p named) ∙ held);
      apart = λ told. can.apart (was_told told);
      retired = λ told. unnamed_now (was_told told);
      waits = can.waits;
    }

    agrees_now : IsTrue old.told → (s : State) → Agrees old.world x s → Agrees new.world z s
    agrees_now told s a = record {
      keeps = a.keeps;
      stands = durably_same old.world new.world x.settings.settled s.vault
          (stays_named old.world new.world x.settings.settled.rec names (clear told) (but told))
          (stays_settings old.world new.world x.settings.settled.rec names (clear told) (but told)) a.stands;
      ready = stays_ready old.world new.world x.settings.settled.rec names (clear told) (but told) x.settings a.ready;
      books_are = a.books_are ∙ sym (stays_books old.world new.world x.settings.settled.rec names (clear told) (but told) x.settings.settled);
      session = a.session;
      opened = a.opened;
      metrics = a.metrics;
      captured = a.captured;
      named = stays_kept old.world new.world x.settings.settled.rec names (clear told) (but told) x.named.items a.named;
      slots = (but told).count ∙ a.slots;
      retired = unnamed_now told;
      going = stopped ∙ a.going;
      prepared = a.prepared;
    }

    bare_now : IsTrue old.told → (s : State) → Agrees old.world x s → StaysBare old.world x new.world z
    bare_now told s a start bare = by names refl
      where
        by : (l : List (List ℕ)) → names ≡ l → IsBare start new.world x.settings.settled.rec (retired_files y)
        by [] none =
            let there : new.world ≡ old.world = did.world told ∙ ap (λ (l : List (List ℕ)). after_all old.world (first_removed l)) none in
            subst (λ (w : World). IsBare start w x.settings.settled.rec (retired_files y)) (sym there)
            (bare_more start old.world x.settings.settled.rec (retired_files x) (retired_files y)
            (λ n has. subst (λ (l : List (List ℕ)). Contains (first_and l (retired_files y)) n) none (more n has)) bare)
        by (n ∷ rest) some =
            let there : new.world ≡ after old.world (Remove n) 0 = did.world told ∙ ap (λ (l : List (List ℕ)). after_all old.world (first_removed l)) some in
            let within : Contains names n = subst (λ (l : List (List ℕ)). Contains l n) (sym some) (0, omega arith, refl) in
            let part = can.names n (its n within) in
            let bare_first = bare_more start old.world x.settings.settled.rec (retired_files x) (n ∷ retired_files y)
            (λ m has. subst (λ (l : List (List ℕ)). Contains (first_and l (retired_files y)) m) some (more m has)) bare in
            let named : ¬ NamesFile (has_weaver old.world) x.settings.settled.rec part.0 = λ has. (clear told n within).named part.0 has part.3 in
            subst (λ (w : World). IsBare start w x.settings.settled.rec (retired_files y)) (sym there)
            (subst (λ (m : List ℕ). IsBare start (after old.world (Remove m) 0) x.settings.settled.rec (retired_files y)) (sym part.3)
            (tidied_bare start old.world x.settings.settled.rec part.0 (retired_files y) a.keeps part.1 named
            (subst (λ (m : List ℕ). IsBare start old.world x.settings.settled.rec (m ∷ retired_files y)) part.3 bare_first)))

    pub done_only : (gone : Bool) → Keeps {T = Bool} {E = Part} (λ p. p) old new (Ok gone) → OnlyTidies {T = Bool} old x (Ok gone) y new
    done_only gone keeps = subst (λ (v : Session). OnlyTidies {T = Bool} old x (Ok gone) v new) (sym same) (record {
      keeps = record {
        told = keeps.told;
        never_fails = keeps.never_fails;
        slots = keeps.slots;
        later = keeps.later;
        quiet = keeps.quiet;
        other = λ e is apart. keeps.quiet;
        cause = λ p is. absurd (no_fault p is);
      };
      cause = stopped;
      going = no_cause;
      rest = refl;
      can = can_now;
      silent = λ told. stays_silent old.world new.world x.settings.settled.rec names (clear told) (but told);
      tape = λ told. stays_tape old.world new.world x.settings.settled.rec names (clear told) (but told);
      inside = λ told. plan_inside (first_removed names) old.world old new (all_mute (reach_of_names names) (first_removed names) (first_touch names)) (did.past told);
      strange = λ told. stays_strange old.world new.world x.settings.settled.rec names (clear told) (but told) (λ n has. can.names n (its n has));
      agrees = agrees_now;
      crash = all_still;
      bare = bare_now;
    })
      where
        no_fault : (p : Part) → ◌≡◌ {A = Result Bool Stop} (Ok gone) (Err (Fault p)) → ⊥
        no_fault p is = cc

        no_cause : (c : Cause) → ◌≡◌ {A = Result Bool Stop} (Ok gone) (Err (Stopped c)) → ⊥
        no_cause c is = cc
