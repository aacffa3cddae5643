-- What goes on behind tidying: more of it, and a command.
use Rattle.std.proofs.Common.{◌≡◌, ◌≢◌, ◌≤◌, inl, ℕ, Bool, IsTrue, List, refl, sym, ◌∙◌, ap, subst}
use Rattle.std.specs.Prelude.{Result, Ok, Err, IfOk, OnOk}
use Rattle.ls_board.specs.declared.action.Part.{Part}
use Rattle.ls_board.specs.declared.world.World.{World}
use Rattle.ls_board.specs.Acts.{Sight, Rose}
use Rattle.ls_board.specs.Keeping.{Keeps}
use Rattle.ls_board.specs.Runs.{LeavesOnly}
use Rattle.ls_board.proofs.RunLemmas.{joins, weaker}
use Rattle.ls_script.specs.declared.reply.Reply.{Reply}
use Rattle.ls_serving.proofs.MetLemmas.{met_back}
use Rattle.ls_serving.proofs.TurnLemmas.{inside_extends, inside-trans}
use Rattle.ls_vault.specs.declared.state.State.{State}
use Rattle.ls_vault.specs.Script.{Stage}
use Rattle.ls_turn.specs.declared.session.Session.{Session}
use Rattle.ls_turn.specs.declared.stop.Cause.{Cause}
use Rattle.ls_turn.specs.declared.stop.Stop.{Stop}
use Rattle.ls_turn.specs.declared.stop.Stop.TheVariants.{Fault, Stopped}
use Rattle.ls_turn.specs.Agreeing.{Agrees}
use Rattle.ls_turn.specs.Serving.{IsBetween, IsTurn, KeepsCause, KeepsStrange, MeetsFair, Serves, StaysBare, Turned, stage_in, stopped_by, vault_after}
use Rattle.ls_turn.proofs.BehindLemmas.{silent-trans}
use Rattle.ls_tidying.specs.Tidying.{IsStill, KeepsTape, OnlyTidies}

on_map : {T E P Q : Type 0} (r : Result T E) → (P → Q) → OnOk r P → OnOk r Q
on_map (Ok t) f h = f h
on_map (Err e) f h = tt

if_map : {T E : Type 0} (P Q : T → Type 0) (r : Result T E) → ((t : T) → P t → Q t) → IfOk r P → IfOk r Q
if_map P Q (Ok t) f h = f t h
if_map P Q (Err e) f h = tt

cause_then : {T : Type 0} (x y z : Session) (r : Result T Stop) → y.stopped ≡ x.stopped → KeepsCause y r z → KeepsCause x r z
cause_then x y z (Ok t) same h = h ∙ same
cause_then x y z (Err stop) same h = h ∙ ap (stopped_by stop) same

-- the machine's stage is the same
stage_same : (old new : World) (s : State) → KeepsTape old new → stage_in new s ≡ stage_in old s
stage_same old new s tape = λ i. record { state = s; moments = tape.moments i; noise = tape.noise i }

module _ (old mid new : Sight) {S : Type 0} (x y z : Session) (t : S) (first : OnlyTidies {T = S} old x (Ok t) y mid) where
  told_mid : IsTrue old.told → IsTrue mid.told
  told_mid told = subst (λ (b : Bool). IsTrue b) (sym first.keeps.told) told

  keeps_then : {T : Type 0} (result : Result T Stop) → Keeps {T = T} {E = Stop} Fault mid new result → Keeps {T = T} {E = Stop} Fault old new result
  keeps_then result second = record {
    told = second.told ∙ first.keeps.told;
    never_fails = second.never_fails ∙ first.keeps.never_fails;
    slots = second.slots ∙ first.keeps.slots;
    later = λ p. subst (λ (f : Part → ℕ). f p ≤ new.faults p) first.keeps.quiet (second.later p);
    quiet = subst (λ (f : Part → ℕ). OnOk result (new.faults ≡ f)) first.keeps.quiet second.quiet;
    other = λ e is apart. second.other e is apart ∙ first.keeps.quiet;
    cause = λ p is. subst (λ (f : Part → ℕ). Rose (f p) (new.faults p)) first.keeps.quiet (second.cause p is);
  }

  -- more of it
  pub tidies_then : {T : Type 0} (result : Result T Stop) → OnlyTidies {T = T} mid y result z new → OnlyTidies {T = T} old x result z new
  tidies_then {T} result second = record {
    keeps = keeps_then {T = T} result second.keeps;
    cause = cause_then {T = T} x y z result first.cause second.cause;
    going = second.going;
    rest = second.rest ∙ ap (λ (v : Session). record v { retired = z.retired; stopped = z.stopped }) first.rest;
    can = second.can;
    silent = λ told. silent-trans old.world mid.world new.world (first.silent told) (second.silent (told_mid told));
    tape = λ told. record {
      moments = (second.tape (told_mid told)).moments ∙ (first.tape told).moments;
      noise = (second.tape (told_mid told)).noise ∙ (first.tape told).noise;
    };
    inside = λ told. inside-trans old mid new (first.inside told) (second.inside (told_mid told));
    strange = λ told. on_map result (λ (later : KeepsStrange mid.world new.world) n strange. later n strange ∙ first.strange told n strange) (second.strange (told_mid told));
    agrees = λ told s agrees. second.agrees (told_mid told) s (first.agrees told s agrees);
    crash = λ told s agrees.
        joins old mid new (IsStill old.world s.vault) (first.crash told s agrees)
        (weaker mid new (IsStill mid.world s.vault) (IsStill old.world s.vault)
        (λ image i. record { stands = i.stands; silent = silent-trans old.world mid.world image (first.silent told) i.silent })
        (second.crash (told_mid told) s (first.agrees told s agrees)));
    bare = λ told s agrees.
        on_map result (λ (later : StaysBare mid.world y new.world z) start bare. later start (first.bare told s agrees start bare))
        (second.bare (told_mid told) s (first.agrees told s agrees));
  }

  -- a command
  module _ (turn : Stage → Turned) (fair : World → State → Type 0) (result : Result Reply Stop) (serves : Serves mid y turn fair result z new) where
    fair_mid : IsTrue old.told → (s : State) → MeetsFair fair old new s → MeetsFair fair mid new s
    fair_mid told s fairly w met stands = fairly w (met_back old mid new w (inside_extends old mid (first.inside told)) met) stands

    same_turn : IsTrue old.told → (s : State) → turn (stage_in mid.world s) ≡ turn (stage_in old.world s)
    same_turn told s = ap turn (stage_same old.world mid.world s (first.tape told))

    crash_behind : IsTrue old.told → (s : State) → Agrees old.world x s → MeetsFair fair old new s → LeavesOnly old new (IsBetween old.world s.vault (vault_after turn old.world s))
    crash_behind told s agrees fairly =
        let after = vault_after turn old.world s in
        let later = subst (λ (u : Turned). LeavesOnly mid new (IsBetween mid.world s.vault u.stage.state.vault)) (same_turn told s) (serves.crash (told_mid told) s (first.agrees told s agrees) (fair_mid told s fairly)) in
        joins old mid new (IsBetween old.world s.vault after)
        (weaker old mid (IsStill old.world s.vault) (IsBetween old.world s.vault after) (λ image i. record { either = inl i.stands; silent = i.silent }) (first.crash told s agrees))
        (weaker mid new (IsBetween mid.world s.vault after) (IsBetween old.world s.vault after)
        (λ image b. record { either = b.either; silent = silent-trans old.world mid.world image (first.silent told) b.silent }) later)

    pub serves_then : Serves old x turn fair result z new
    serves_then = record {
      keeps = keeps_then {T = Reply} result serves.keeps;
      slots = serves.slots ∙ ap (λ (v : Session). v.slots) first.rest;
      boot = serves.boot ∙ ap (λ (v : Session). v.boot) first.rest;
      cause = cause_then {T = Reply} x y z result first.cause serves.cause;
      going = serves.going;
      can = serves.can;
      few = serves.few;
      silent = λ told. silent-trans old.world mid.world new.world (first.silent told) (serves.silent (told_mid told));
      inside = λ told. inside-trans old mid new (first.inside told) (serves.inside (told_mid told));
      strange = λ told. on_map result (λ (later : KeepsStrange mid.world new.world) n strange. later n strange ∙ first.strange told n strange) (serves.strange (told_mid told));
      crash = crash_behind;
      done = λ told s agrees fairly.
          if_map (λ r. IsTurn (turn (stage_in mid.world s)) r z new.world) (λ r. IsTurn (turn (stage_in old.world s)) r z new.world) result
          (λ r is. subst (λ (u : Turned). IsTurn u r z new.world) (same_turn told s) is)
          (serves.done (told_mid told) s (first.agrees told s agrees) (fair_mid told s fairly));
      bare = λ told s agrees fairly.
          on_map result (λ (later : StaysBare mid.world y new.world z) start bare. later start (first.bare told s agrees start bare))
          (serves.bare (told_mid told) s (first.agrees told s agrees) (fair_mid told s fairly));
    }

-- a command that stops there
module _ (old new : Sight) {T : Type 0} (x y : Session) (turn : Stage → Turned) (fair : World → State → Type 0) (stop : Stop) (tidies : OnlyTidies {T = T} old x (Err stop) y new) where
  same_stop : (e : Stop) → ◌≡◌ {A = Result Reply Stop} (Err stop) (Err e) → stop ≡ e
  same_stop e is = cc

  as_tidied : (e : Stop) → ◌≡◌ {A = Result Reply Stop} (Err stop) (Err e) → ◌≡◌ {A = Result T Stop} (Err stop) (Err e)
  as_tidied e is = subst (λ (s : Stop). ◌≡◌ {A = Result T Stop} (Err stop) (Err s)) (same_stop e is) refl

  pub stops_tidying : Serves old x turn fair (Err stop) y new
  stops_tidying = record {
    keeps = record {
      told = tidies.keeps.told;
      never_fails = tidies.keeps.never_fails;
      slots = tidies.keeps.slots;
      later = tidies.keeps.later;
      quiet = tt;
      other = λ e is apart. tidies.keeps.other e (as_tidied e is) apart;
      cause = λ p is. tidies.keeps.cause p (as_tidied (Fault p) is);
    };
    slots = ap (λ (v : Session). v.slots) tidies.rest;
    boot = ap (λ (v : Session). v.boot) tidies.rest;
    cause = tidies.cause;
    going = λ c is. tidies.going c (as_tidied (Stopped c) is);
    can = tt;
    few = tt;
    silent = tidies.silent;
    inside = tidies.inside;
    strange = λ told. tt;
    crash = λ told s agrees fairly.
        weaker old new (IsStill old.world s.vault) (IsBetween old.world s.vault (vault_after turn old.world s))
        (λ image i. record { either = inl i.stands; silent = i.silent }) (tidies.crash told s agrees);
    done = λ told s agrees fairly. tt;
    bare = λ told s agrees fairly. tt;
  }
