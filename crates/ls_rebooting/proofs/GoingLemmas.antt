-- A command that goes on behind calls which change the state.
use Rattle.std.proofs.Common.{◌≡◌, ◌≢◌, ◌≤◌, ◌⊎◌, inr, ⊎_elim, ℕ, Bool, IsTrue, sym, ◌∙◌, ap, subst}
use Rattle.std.specs.Prelude.{Result, Ok, Err, IfOk, OnOk}
use Rattle.ls_board.specs.declared.action.Part.{Part}
use Rattle.ls_board.specs.declared.world.World.{World}
use Rattle.ls_board.specs.Acts.{Sight, Rose}
use Rattle.ls_board.specs.Keeping.{Keeps}
use Rattle.ls_board.specs.Runs.{LeavesOnly}
use Rattle.ls_board.proofs.RunLemmas.{joins, weaker}
use Rattle.ls_script.specs.declared.reply.Reply.{Reply}
use Rattle.ls_serving.specs.Calls.{IsSilent}
use Rattle.ls_serving.specs.Turns.{StaysInside}
use Rattle.ls_serving.proofs.TurnLemmas.{inside-trans}
use Rattle.ls_vault.specs.declared.state.State.{State}
use Rattle.ls_vault.specs.declared.vault.Vault.{Vault}
use Rattle.ls_vault.specs.Script.{Stage}
use Rattle.ls_turn.specs.declared.session.Session.{Session}
use Rattle.ls_turn.specs.declared.stop.Cause.{Cause}
use Rattle.ls_turn.specs.declared.stop.Stop.{Stop}
use Rattle.ls_turn.specs.declared.stop.Stop.TheVariants.{Fault, Stopped}
use Rattle.ls_turn.specs.Agreeing.{Agrees}
use Rattle.ls_turn.specs.Serving.{Always, IsBetween, IsTurn, KeepsStrange, Serves, StandsSomehow, StaysBare, Turned, stage_in, stopped_by, vault_after}
use Rattle.ls_turn.proofs.BehindLemmas.{silent-trans}

-- ---- calls that lead to another state

-- No call between the two failed, and none heard or said. The session agrees with the next state then, a
-- crash leaves the vault of the one state or of the other, and nothing is left that isn't named or
-- retired.
pub record Goes (x : Session) (next : State → State) (old new : Sight) : Type 0 where
  pub told : new.told ≡ old.told
  pub never_fails : new.never_fails ≡ old.never_fails
  pub slots : new.slots ≡ old.slots
  pub faults : new.faults ≡ old.faults
  pub inside : IsTrue old.told → StaysInside old new
  pub silent : IsTrue old.told → IsSilent old.world new.world
  pub strange : IsTrue old.told → KeepsStrange old.world new.world
  pub agrees : IsTrue old.told → (s : State) → Agrees old.world x s → Agrees new.world x (next s)
  pub crash : IsTrue old.told → (s : State) → Agrees old.world x s → LeavesOnly old new (IsBetween old.world s.vault (next s).vault)
  pub bare : IsTrue old.told → (s : State) → Agrees old.world x s → StaysBare old.world x new.world x

abbrev IsEither : Vault → Vault → World → Type 0
IsEither old new image = StandsSomehow image old ⊎ StandsSomehow image new

on_map : {T E P Q : Type 0} (r : Result T E) → (P → Q) → OnOk r P → OnOk r Q
on_map (Ok t) f h = f h
on_map (Err e) f h = tt

if_map : {T E : Type 0} (P Q : T → Type 0) (r : Result T E) → ((t : T) → P t → Q t) → IfOk r P → IfOk r Q
if_map P Q (Ok t) f h = f t h
if_map P Q (Err e) f h = tt

-- ---- a command that goes on behind them, and leaves the vault that they left

module _ (old mid new : Sight) (x y : Session) (next : State → State) (turn then : Stage → Turned) (result : Result Reply Stop) (goes : Goes x next old mid)
    (same : IsTrue old.told → (s : State) → Agrees old.world x s → turn (stage_in old.world s) ≡ then (stage_in mid.world (next s)))
    (ends : (s : State) → vault_after then mid.world (next s) ≡ (next s).vault) (serves : Serves mid x then Always result y new) where
  told_mid : IsTrue old.told → IsTrue mid.told
  told_mid told = subst (λ (b : Bool). IsTrue b) (sym goes.told) told

  going_keeps : Keeps {T = Reply} {E = Stop} Fault old new result
  going_keeps = record {
    told = serves.keeps.told ∙ goes.told;
    never_fails = serves.keeps.never_fails ∙ goes.never_fails;
    slots = serves.keeps.slots ∙ goes.slots;
    later = λ p. subst (λ (f : Part → ℕ). f p ≤ new.faults p) goes.faults (serves.keeps.later p);
    quiet = subst (λ (f : Part → ℕ). OnOk result (new.faults ≡ f)) goes.faults serves.keeps.quiet;
    other = λ e is apart. serves.keeps.other e is apart ∙ goes.faults;
    cause = λ p is. subst (λ (f : Part → ℕ). Rose (f p) (new.faults p)) goes.faults (serves.keeps.cause p is);
  }

  its_vault : IsTrue old.told → (s : State) → Agrees old.world x s → (next s).vault ≡ vault_after turn old.world s
  its_vault told s a = sym (ends s) ∙ ap (λ (t : Turned). t.stage.state.vault) (sym (same told s a))

  going_crash : IsTrue old.told → (s : State) → Agrees old.world x s → LeavesOnly old new (IsBetween old.world s.vault (vault_after turn old.world s))
  going_crash told s a =
      let after = vault_after turn old.world s in
      joins old mid new (IsBetween old.world s.vault after)
      (subst (λ (v : Vault). LeavesOnly old mid (IsBetween old.world s.vault v)) (its_vault told s a) (goes.crash told s a))
      (weaker mid new (IsBetween mid.world (next s).vault (vault_after then mid.world (next s))) (IsBetween old.world s.vault after)
      (λ image b. record { either = inr (later told s a image b.either); silent = silent-trans old.world mid.world image (goes.silent told) b.silent })
      (serves.crash (told_mid told) (next s) (goes.agrees told s a) (λ w met stands. tt)))
    where
      later : (told : IsTrue old.told) (s : State) (a : Agrees old.world x s) (image : World) → IsEither (next s).vault (vault_after then mid.world (next s)) image
          → StandsSomehow image (vault_after turn old.world s)
      later told s a image either =
          ⊎_elim (λ (was : StandsSomehow image (next s).vault). subst (λ (v : Vault). StandsSomehow image v) (its_vault told s a) was)
          (λ (is : StandsSomehow image (vault_after then mid.world (next s))). subst (λ (v : Vault). StandsSomehow image v) (ends s ∙ its_vault told s a) is) either

  pub going_on : Serves old x turn Always result y new
  going_on = record {
    keeps = going_keeps;
    slots = serves.slots;
    boot = serves.boot;
    cause = serves.cause;
    going = serves.going;
    can = serves.can;
    few = serves.few;
    silent = λ told. silent-trans old.world mid.world new.world (goes.silent told) (serves.silent (told_mid told));
    inside = λ told. inside-trans old mid new (goes.inside told) (serves.inside (told_mid told));
    strange = λ told. on_map result (λ (later : KeepsStrange mid.world new.world) n strange. later n strange ∙ goes.strange told n strange) (serves.strange (told_mid told));
    crash = λ told s agrees fairly. going_crash told s agrees;
    done = λ told s agrees fairly.
        if_map (λ r. IsTurn (then (stage_in mid.world (next s))) r y new.world) (λ r. IsTurn (turn (stage_in old.world s)) r y new.world) result
        (λ r is. subst (λ (t : Turned). IsTurn t r y new.world) (sym (same told s agrees)) is)
        (serves.done (told_mid told) (next s) (goes.agrees told s agrees) (λ w met stands. tt));
    bare = λ told s agrees fairly.
        on_map result (λ (later : StaysBare mid.world x new.world y) start bare. later start (goes.bare told s agrees start bare))
        (serves.bare (told_mid told) (next s) (goes.agrees told s agrees) (λ w met stands. tt));
  }

-- ---- a command that stops within such calls

module _ (old new : Sight) (x y : Session) (turn : Stage → Turned) where
  pub stops_between : (stop : Stop) → ((c : Cause) → stop ≢ Stopped c) → y.slots ≡ x.slots → y.boot ≡ x.boot → y.stopped ≡ stopped_by stop x.stopped
      → Keeps {T = Reply} {E = Stop} Fault old new (Err stop) → (IsTrue old.told → IsSilent old.world new.world) → (IsTrue old.told → StaysInside old new)
      → (IsTrue old.told → (s : State) → Agrees old.world x s → LeavesOnly old new (IsBetween old.world s.vault (vault_after turn old.world s)))
      → Serves old x turn Always (Err stop) y new
  stops_between stop fresh slots boot stopped keeps silent inside crash = record {
    keeps = keeps;
    slots = slots;
    boot = boot;
    cause = stopped;
    going = λ c is. fresh c (same_stop c is);
    can = tt;
    few = tt;
    silent = silent;
    inside = inside;
    strange = λ told. tt;
    crash = λ told s agrees fairly. crash told s agrees;
    done = λ told s agrees fairly. tt;
    bare = λ told s agrees fairly. tt;
  }
    where
      same_stop : (c : Cause) → ◌≡◌ {A = Result Reply Stop} (Err stop) (Err (Stopped c)) → stop ≡ Stopped c
      same_stop c is = cc
