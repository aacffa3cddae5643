-- Actions in order up to one that fails: one of them, and two lists in a row.
use Rattle.std.proofs.Common.{◌≡◌, ◌≤◌, inl, inr, zero, suc, ℕ, IsTrue, IsSomeAnd, List, [], ◌∷◌, ◌++◌, Option, None, Some, unwrap_or, length, take, slice_get, refl, sym, ◌∙◌, ap, subst}
use Rattle.std.proofs.Math.Nat.{le_refl}
use Rattle.std.specs.Prelude.{Result, Ok, Err, IfErr, OnOk}
use Rattle.ls_board.specs.declared.action.Action.{Action}
use Rattle.ls_board.specs.declared.action.Answer.{Answer}
use Rattle.ls_board.specs.declared.action.BoardFault.{BoardFault}
use Rattle.ls_board.specs.declared.action.BoardFault.TheVariants.{Failed}
use Rattle.ls_board.specs.declared.action.Part.{Part}
use Rattle.ls_board.specs.declared.world.World.{World}
use Rattle.ls_board.specs.Acts.{Sight, CanAct, Acts, Rose}
use Rattle.ls_board.specs.Effect.{after}
use Rattle.ls_board.specs.Images.{Within}
use Rattle.ls_board.specs.Keeping.{Keeps}
use Rattle.ls_board.specs.Planned.{IsPlanned}
use Rattle.ls_board.specs.Runs.{after_all, CanRun, Did, FailedAfter, FailedIn, LeavesOnly, PlanImage}
use Rattle.ls_board.proofs.StepLemmas.{planned_count}
use Rattle.ls_board.proofs.RunLemmas.{can_act, did_none, did_then_failed, started}
use Rattle.ls_board.proofs.CallLemmas.{still_told, did_one, did_both, keeps_behind, failed_keeps, act_crash, front_crash, next_crash}
use Rattle.ls_board.proofs.FailLemmas.{failed_at, failed_front, failed_behind}
use Rattle.ls_protector.specs.Steps.{PlanWorld, Steps}

-- ---- the world within a plan

world_start : (w : World) (plan : List Action) → PlanWorld w plan w
world_start w [] = refl
world_start w (a ∷ plan) = inl refl

world_end : (w : World) (plan : List Action) → PlanWorld w plan (after_all w plan)
world_end w [] = refl
world_end w (a ∷ plan) = inr (inr (world_end (after w a 0) plan))

world_failed : (w mid : World) (plan : List Action) (n : ℕ) (a : Action) → slice_get plan n ≡ Some a → Within (after_all w (take n plan)) a mid → PlanWorld w plan mid
world_failed w mid [] n a is within = absurd (cc)
world_failed w mid (b ∷ plan) zero a is within =
    let same : b ≡ a = ap (λ o. unwrap_or o b) is in
    inr (inl (subst (λ (x : Action). Within w x mid) (sym same) within))
world_failed w mid (b ∷ plan) (suc n) a is within = inr (inr (world_failed (after w b 0) mid plan n a is within))

world_front : (w mid : World) (xs ys : List Action) → PlanWorld w xs mid → PlanWorld w (xs ++ ys) mid
world_front w mid [] ys is = subst (PlanWorld w ys) (sym is) (world_start w ys)
world_front w mid (a ∷ xs) ys (inl is) = inl is
world_front w mid (a ∷ xs) ys (inr (inl within)) = inr (inl within)
world_front w mid (a ∷ xs) ys (inr (inr later)) = inr (inr (world_front (after w a 0) mid xs ys later))

world_behind : (w mid : World) (xs ys : List Action) → PlanWorld (after_all w xs) ys mid → PlanWorld w (xs ++ ys) mid
world_behind w mid [] ys is = is
world_behind w mid (a ∷ xs) ys is = inr (inr (world_behind (after w a 0) mid xs ys is))

-- ---- what is kept, whatever the value

pub keeps_ok : {T U : Type 0} (t : T) (u : U) (old new : Sight) → Keeps {T = T} {E = Part} (λ part. part) old new (Ok t) → Keeps {T = U} {E = Part} (λ part. part) old new (Ok u)
keeps_ok t u old new keeps = record {
  told = keeps.told;
  never_fails = keeps.never_fails;
  slots = keeps.slots;
  later = keeps.later;
  quiet = keeps.quiet;
  other = λ e no apart. absurd (cc);
  cause = λ p no. absurd (cc);
}

part_same : {T : Type 0} (x y : Part) → ◌≡◌ {A = Result T Part} (Err x) (Err y) → x ≡ y
part_same x y e = cc

rose_keeps : {T : Type 0} (old new : Sight) (part : Part) → new.told ≡ old.told → new.never_fails ≡ old.never_fails → new.slots ≡ old.slots
    → ((p : Part) → old.faults p ≤ new.faults p) → Rose (old.faults part) (new.faults part) → Keeps {T = T} {E = Part} (λ p. p) old new (Err part)
rose_keeps {T} old new part told never_fails slots later rose = record {
  told = told;
  never_fails = never_fails;
  slots = slots;
  later = later;
  quiet = tt;
  other = λ e is apart. absurd (apart part (sym (part_same {T = T} part e is)));
  cause = λ p is. subst (λ (q : Part). Rose (old.faults q) (new.faults q)) (part_same {T = T} part p is) rose;
}

pub keeps_err : {T U : Type 0} (old new : Sight) (part : Part) → Keeps {T = T} {E = Part} (λ p. p) old new (Err part) → Keeps {T = U} {E = Part} (λ p. p) old new (Err part)
keeps_err {T} {U} old new part keeps = rose_keeps {T = U} old new part keeps.told keeps.never_fails keeps.slots keeps.later (keeps.cause part refl)

-- ---- steps

pub steps_none : (s : Sight) → Steps {T = Unit {0}} s [] (Ok tt) s
steps_none s = record {
  did = did_none s;
  failed = tt;
  keeps = record {
    told = refl;
    never_fails = refl;
    slots = refl;
    later = λ p. le_refl (s.faults p);
    quiet = refl;
    other = λ e no apart. refl;
    cause = λ p no. absurd (cc);
  };
  world = λ told. refl;
  crash = λ told. started s (PlanImage s.world []) (λ image left. left);
}

pub can_one : (s : Sight) (a : Action) → CanRun s (a ∷ []) → CanAct s a
can_one s a can = can_act s s [] [] a can (did_none s)

module _ (old new : Sight) (a : Action) (out : List ℕ) (planned : IsPlanned a) where
  pub steps_done : (answer : Answer) → Acts old a (Ok answer) out new → Steps {T = Unit {0}} old (a ∷ []) (Ok tt) new
  steps_done answer acts = record {
    did = did_one old new a answer out planned acts;
    failed = tt;
    keeps = record {
      told = acts.told;
      never_fails = acts.never_fails;
      slots = acts.slots;
      later = acts.later;
      quiet = acts.quiet;
      other = λ e no apart. acts.quiet;
      cause = λ p no. absurd (cc);
    };
    world = λ told. inr (inr ((acts.moves told).done.1 ∙ planned_count old.world a (length out) planned));
    crash = act_crash old new a (Ok answer) out acts;
  }

  one_failed : (part : Part) → Acts old a (Err (Failed part)) out new → Steps {T = Unit {0}} old (a ∷ []) (Err part) new
  one_failed part acts = record {
    did = tt;
    failed = record { done = []; failing = a; left = []; splits = refl; failed = did_then_failed old old new [] a part out (did_none old) acts };
    keeps = rose_keeps {T = Unit {0}} old new part acts.told acts.never_fails acts.slots acts.later (acts.cause part refl).1;
    world = λ told. inr (inl ((acts.moves told).failed part refl));
    crash = act_crash old new a (Err (Failed part)) out acts;
  }

  pub steps_failed : (part : Part) (fault : BoardFault) → fault ≡ Failed part → Acts old a (Err fault) out new → Steps {T = Unit {0}} old (a ∷ []) (Err part) new
  steps_failed part fault is acts = one_failed part (subst (λ (f : BoardFault). Acts old a (Err f) out new) is acts)

-- a plan that was run
module _ (old new : Sight) (plan : List Action) (crash : IsTrue old.told → LeavesOnly old new (PlanImage old.world plan)) where
  pub steps_ran : Did old plan new → Steps {T = Unit {0}} old plan (Ok tt) new
  steps_ran did = record {
    did = did;
    failed = tt;
    keeps = keeps_behind {T = Unit {0}} {E = Part} {fault = λ part. part} old new new plan (Ok tt) did (steps_none new).keeps;
    world = λ told. subst (PlanWorld old.world plan) (sym (did.world told)) (world_end old.world plan);
    crash = crash;
  }

  pub steps_broke : (at : ℕ) (part : Part) → IsSomeAnd (slice_get plan at) (λ a. FailedAfter old (take at plan) a part new) → Steps {T = Unit {0}} old plan (Err part) new
  steps_broke at part some = record {
    did = tt;
    failed = failed_at old new plan at part some;
    keeps = failed_keeps {T = Unit {0}} old new (take at plan) (slice_get plan at) part some;
    world = λ told. by told (slice_get plan at) refl some;
    crash = crash;
  }
    where
      by : IsTrue old.told → (o : Option Action) → slice_get plan at ≡ o → IsSomeAnd o (λ a. FailedAfter old (take at plan) a part new) → PlanWorld old.world plan new.world
      by told None is none = absurd none
      by told (Some a) is after = world_failed old.world new.world plan at a is (after.world told)

-- two lists in a row
pub steps_front : {T : Type 0} (old new : Sight) (xs ys : List Action) (part : Part) → Steps {T = T} old xs (Err part) new → Steps {T = T} old (xs ++ ys) (Err part) new
steps_front old new xs ys part steps = record {
  did = tt;
  failed = failed_front old new xs ys part steps.failed;
  keeps = steps.keeps;
  world = λ told. world_front old.world new.world xs ys (steps.world told);
  crash = front_crash old new xs ys steps.crash;
}

pub steps_behind : {T : Type 0} (s0 s1 s2 : Sight) (xs ys : List Action) (result : Result T Part) → Did s0 xs s1 → (IsTrue s0.told → LeavesOnly s0 s1 (PlanImage s0.world xs)) → Steps {T = T} s1 ys result s2 → Steps {T = T} s0 (xs ++ ys) result s2
steps_behind {T} s0 s1 s2 xs ys result did crash steps = record {
  did = both result steps.did;
  failed = broken result steps.failed;
  keeps = keeps_behind {T = T} {E = Part} {fault = λ part. part} s0 s1 s2 xs result did steps.keeps;
  world = λ told.
      world_behind s0.world s2.world xs ys (subst (λ (w : World). PlanWorld w ys s2.world) (did.world told) (steps.world (still_told s0 s1 xs did told)));
  crash = next_crash s0 s1 s2 xs ys did crash steps.crash;
}
  where
    both : (r : Result T Part) → OnOk r (Did s1 ys s2) → OnOk r (Did s0 (xs ++ ys) s2)
    both (Ok t) then = did_both s0 s1 s2 xs ys did then
    both (Err part) then = tt

    broken : (r : Result T Part) → IfErr r (λ part. FailedIn s1 ys part s2) → IfErr r (λ part. FailedIn s0 (xs ++ ys) part s2)
    broken (Ok t) then = tt
    broken (Err part) then = failed_behind s0 s1 s2 xs ys part did then
