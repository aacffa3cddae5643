-- Actions in a row, up to one that fails: a call's, a plan's, and two lists of them.
use Rattle.std.proofs.Common.{◌≡◌, ◌<◌, ℕ, Option, None, Some, IsTrue, IsSomeAnd, List, [], ◌∷◌, ◌++◌, take, slice_get, sym, subst}
use Rattle.std.specs.Prelude.{IfSome, Result, Ok, Err, IfErr, OnOk}
use Rattle.std.specs.List.{flat_map}
use Rattle.ls_board.specs.declared.action.Action.{Action}
use Rattle.ls_board.specs.declared.action.Action.TheVariants.{KeyDrop}
use Rattle.ls_board.specs.declared.action.Part.{Part}
use Rattle.ls_board.specs.declared.world.World.{World}
use Rattle.ls_board.specs.Acts.{Sight}
use Rattle.ls_board.specs.Keeping.{Keeps}
use Rattle.ls_board.specs.Reach.{Reach, AllTouchOnly, SameBut}
use Rattle.ls_board.specs.Rest.{SameRest}
use Rattle.ls_board.specs.Runs.{AllSound, CanRun, Did, FailedAfter, FailedIn, LeavesOnly, PlanImage}
use Rattle.ls_board.proofs.CallLemmas.{still_told, was_told, did_both, can_front, can_rest, keeps_behind, front_crash, next_crash}
use Rattle.ls_board.proofs.FailLemmas.{failed_at, failed_front, failed_behind}
use Rattle.ls_board.proofs.FrameLemmas.{plan_same}
use Rattle.ls_board.proofs.RestLemmas.{rest_refl, rest_trans, but_rest}
use Rattle.ls_settings.proofs.RunningLemmas.{failed_same}
use Rattle.ls_protector.proofs.StepLemmas.{keeps_ok, keeps_err, steps_none, steps_ran, steps_broke}
use Rattle.ls_formats.specs.declared.parts.Parts.{Parts}
use Rattle.ls_protector.specs.Clear.{IsClearOf}
use Rattle.ls_protector.specs.Parts.{erasing_of}
use Rattle.ls_protector.proofs.PartLemmas.{blanking, forgetting}
use Rattle.ls_exchange.specs.Turns.{Runs, AreClearInTurn, storage}

-- ---- no action, a call, and a plan

runs_none : (s : Sight) → Runs {T = Unit {0}} s [] (Ok tt) s
runs_none s = record {
  did = (steps_none s).did;
  failed = tt;
  keeps = (steps_none s).keeps;
  rest = λ told. rest_refl s.world;
  crash = (steps_none s).crash;
}

-- a call that changes nothing but what it reaches
module _ (old new : Sight) (plan : List Action) (reach : Reach) (but : IsTrue old.told → SameBut reach old.world new.world)
    (crash : IsTrue old.told → LeavesOnly old new (PlanImage old.world plan)) where
  pub call_ran : {T : Type 0} (t : T) → Did old plan new → Keeps {T = T} {E = Part} (λ part. part) old new (Ok t) → Runs {T = Unit {0}} old plan (Ok tt) new
  call_ran {T} t did keeps = record {
    did = did;
    failed = tt;
    keeps = keeps_ok {T = T} {U = Unit {0}} t tt old new keeps;
    rest = λ told. but_rest reach old.world new.world (but told);
    crash = crash;
  }

  pub call_broke : {T : Type 0} (part : Part) → FailedIn old plan part new → Keeps {T = T} {E = Part} (λ part. part) old new (Err part) → Runs {T = Unit {0}} old plan (Err part) new
  call_broke {T} part failed keeps = record {
    did = tt;
    failed = failed;
    keeps = keeps_err {T = T} {U = Unit {0}} old new part keeps;
    rest = λ told. but_rest reach old.world new.world (but told);
    crash = crash;
  }

-- a plan that changes what is stored
module _ (old new : Sight) (plan : List Action) (stored : IsTrue old.told → AllTouchOnly storage plan)
    (crash : IsTrue old.told → LeavesOnly old new (PlanImage old.world plan)) where
  pub plan_ran : Did old plan new → Runs {T = Unit {0}} old plan (Ok tt) new
  plan_ran did = record {
    did = did;
    failed = tt;
    keeps = (steps_ran old new plan crash did).keeps;
    rest = λ told. subst (SameRest old.world) (sym (did.world told)) (but_rest storage old.world _ (plan_same storage old.world plan (stored told)));
    crash = crash;
  }

  pub plan_broke : (at : ℕ) (part : Part) → IsSomeAnd (slice_get plan at) (λ a. FailedAfter old (take at plan) a part new) → Runs {T = Unit {0}} old plan (Err part) new
  plan_broke at part failed = record {
    did = tt;
    failed = failed_at old new plan at part failed;
    keeps = (steps_broke old new plan crash at part failed).keeps;
    rest = λ told. but_rest storage old.world new.world (failed_same storage old new plan (stored told) at part failed told);
    crash = crash;
  }

-- ---- two lists in a row

pub runs_front : (old new : Sight) (xs ys : List Action) (part : Part) → Runs {T = Unit {0}} old xs (Err part) new → Runs {T = Unit {0}} old (xs ++ ys) (Err part) new
runs_front old new xs ys part runs = record {
  did = tt;
  failed = failed_front old new xs ys part runs.failed;
  keeps = runs.keeps;
  rest = runs.rest;
  crash = front_crash old new xs ys runs.crash;
}

pub runs_behind : (s0 s1 s2 : Sight) (xs ys : List Action) (result : Result (Unit {0}) Part) → Runs {T = Unit {0}} s0 xs (Ok tt) s1 → Runs {T = Unit {0}} s1 ys result s2
    → Runs {T = Unit {0}} s0 (xs ++ ys) result s2
runs_behind s0 s1 s2 xs ys result first second = record {
  did = both result second;
  failed = broken result second;
  keeps = keeps_behind {T = Unit {0}} {E = Part} {fault = λ part. part} s0 s1 s2 xs result first.did second.keeps;
  rest = λ told. rest_trans s0.world s1.world s2.world (first.rest told) (second.rest (still_told s0 s1 xs first.did told));
  crash = next_crash s0 s1 s2 xs ys first.did first.crash second.crash;
}
  where
    both : (r : Result (Unit {0}) Part) → Runs {T = Unit {0}} s1 ys r s2 → OnOk r (Did s0 (xs ++ ys) s2)
    both (Ok t) then = did_both s0 s1 s2 xs ys first.did then.did
    both (Err part) then = tt

    broken : (r : Result (Unit {0}) Part) → Runs {T = Unit {0}} s1 ys r s2 → IfErr r (λ part. FailedIn s0 (xs ++ ys) part s2)
    broken (Ok t) then = tt
    broken (Err part) then = failed_behind s0 s1 s2 xs ys part first.did then.failed

-- ---- one behind another

-- Whatever the rest of it does, it does all of it.
abbrev pub Completes : Sight → List Action → Sight → List Action → Type 0
Completes start all now rest =
    (result : Result (Unit {0}) Part) (end : Sight) → Runs {T = Unit {0}} now rest result end → Runs {T = Unit {0}} start all result end

pub begins : (start : Sight) (all : List Action) → Completes start all start all
begins start all result end runs = runs

pub ends : {X : Type 0} (plan : X → List Action) (start now : Sight) (all : List Action) (left : List X) → left ≡ [] → Completes start all now (flat_map plan left) → Runs {T = Unit {0}} start all (Ok tt) now
ends {X} plan start now all left is completes = (subst (λ (l : List X). Completes start all now (flat_map plan l)) is completes) (Ok tt) now (runs_none now)

-- where this is the first that is left
module _ {X : Type 0} (plan : X → List Action) (now : Sight) (left rest : List X) (x : X) (is : left ≡ x ∷ rest) where
  here : (P : List X → Type 0) → P left → P (x ∷ rest)
  here P p = subst P is p

  pub first_can : CanRun now (flat_map plan left) → CanRun now (plan x)
  first_can can = can_front now (plan x) (flat_map plan rest) (here (λ l. CanRun now (flat_map plan l)) can)

  pub first_clear : (parts : X → Parts) → (IsTrue now.told → AreClearInTurn parts plan now.world left) → IsClearOf now (parts x)
  first_clear parts clear told = (here (AreClearInTurn parts plan now.world) (clear told)).0

  module _ (start next : Sight) (all : List Action) (completes : Completes start all now (flat_map plan left)) where
    its : Completes start all now (plan x ++ flat_map plan rest)
    its = here (λ l. Completes start all now (flat_map plan l)) completes

    pub goes_on : Runs {T = Unit {0}} now (plan x) (Ok tt) next → Completes start all next (flat_map plan rest)
    goes_on runs result end behind = its result end (runs_behind now next end (plan x) (flat_map plan rest) result runs behind)

    pub breaks_off : (part : Part) → Runs {T = Unit {0}} now (plan x) (Err part) next → Runs {T = Unit {0}} start all (Err part) next
    breaks_off part runs = its (Err part) next (runs_front now next (plan x) (flat_map plan rest) part runs)

  module _ (next : Sight) (runs : Runs {T = Unit {0}} now (plan x) (Ok tt) next) where
    pub rest_can : CanRun now (flat_map plan left) → CanRun next (flat_map plan rest)
    rest_can can = can_rest now next (plan x) (flat_map plan rest) (here (λ l. CanRun now (flat_map plan l)) can) runs.did

    pub rest_clear : (parts : X → Parts) → (IsTrue now.told → AreClearInTurn parts plan now.world left) → IsTrue next.told → AreClearInTurn parts plan next.world rest
    rest_clear parts clear told =
        let was = was_told now next (plan x) runs.did told in
        subst (λ (w : World). AreClearInTurn parts plan w rest) (sym (runs.did.world was)) (here (AreClearInTurn parts plan now.world) (clear was)).1

-- ---- what is erased

by_slot : (slots : ℕ) (slot : Option ℕ) (rest : List Action) → AllSound slots (blanking slot ++ rest) → IfSome slot (λ n. n < slots)
by_slot slots None rest sound = tt
by_slot slots (Some n) rest sound = sound.0

-- a board that may be asked to erase a protector has its slot
pub slot_within : (slots : ℕ) (p : Parts) → AllSound slots (erasing_of p) → IfSome p.slot (λ n. n < slots)
slot_within slots p sound = by_slot slots p.slot (KeyDrop p.id ∷ forgetting p.gk p.id) sound
