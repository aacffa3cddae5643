-- The actions of a sweep in order: its plan, the taking of the cell, and a sync.
use Rattle.std.proofs.Common.{◌≡◌, ◌⊎◌, inl, inr, ℕ, Bool, true, false, List, [], ◌∷◌, ◌++◌, length, refl, sym, ◌∙◌, subst, arith}
use Rattle.std.specs.Prelude.{Result, Ok, Err}
use Rattle.std.proofs.lemmas.List.Sums.{sum_by-cons}
use Rattle.ls_naming.specs.Named.{only_if}
use Rattle.ls_board.specs.declared.action.Action.{Action}
use Rattle.ls_board.specs.declared.action.Action.TheVariants.{ResumeTake, Sync}
use Rattle.ls_board.specs.declared.action.Answer.{Answer}
use Rattle.ls_board.specs.declared.action.BoardFault.{BoardFault}
use Rattle.ls_board.specs.declared.action.BoardFault.TheVariants.{Failed}
use Rattle.ls_board.specs.declared.action.Part.{Part}
use Rattle.ls_board.specs.declared.world.World.{World}
use Rattle.ls_board.specs.Acts.{Sight, Acts}
use Rattle.ls_board.specs.Effect.{after, weight_of, MayLack}
use Rattle.ls_board.specs.Runs.{CanRun, Did}
use Rattle.ls_board.proofs.RunLemmas.{did_none, did_then_failed}
use Rattle.ls_board.proofs.CallLemmas.{can_front, can_rest, act_crash}
use Rattle.ls_protector.specs.Steps.{Steps}
use Rattle.ls_protector.proofs.StepLemmas.{steps_none, steps_ran, steps_broke, steps_front, steps_behind}

-- ---- one of the last actions

abbrev pub IsLast : Action → Type 0
IsLast a = (a ≡ ResumeTake) ⊎ (a ≡ Sync)

last_count : (w : World) (a : Action) (count : ℕ) → IsLast a → after w a count ≡ after w a 0
last_count w a count (inl is) = subst (λ (x : Action). after w x count ≡ after w x 0) (sym is) refl
last_count w a count (inr is) = subst (λ (x : Action). after w x count ≡ after w x 0) (sym is) refl

pub last_has_memory : (a : Action) → IsLast a → ¬ MayLack a
last_has_memory a (inl is) lacks = subst MayLack is lacks
last_has_memory a (inr is) lacks = subst MayLack is lacks

module _ (old new : Sight) (a : Action) (out : List ℕ) (last : IsLast a) where
  did_last : (answer : Answer) → Acts old a (Ok answer) out new → Did old (a ∷ []) new
  did_last answer acts = record {
    told = acts.told;
    never_fails = acts.never_fails;
    slots = acts.slots;
    actions = omega (arith, acts.actions);
    bytes = omega (arith, acts.bytes, sum_by-cons weight_of a []);
    faults = acts.quiet;
    world = λ told. (acts.moves told).done.1 ∙ last_count old.world a (length out) last;
    past = λ told. (acts.moves told).past;
  }

  pub last_done : (answer : Answer) → Acts old a (Ok answer) out new → Steps {T = Unit {0}} old (a ∷ []) (Ok tt) new
  last_done answer acts = steps_ran old new (a ∷ []) (act_crash old new a (Ok answer) out acts) (did_last answer acts)

  failed : (part : Part) → Acts old a (Err (Failed part)) out new → Steps {T = Unit {0}} old (a ∷ []) (Err part) new
  failed part acts =
      steps_broke old new (a ∷ []) (act_crash old new a (Err (Failed part)) out acts) 0 part (did_then_failed old old new [] a part out (did_none old) acts)

  pub last_failed : (part : Part) (fault : BoardFault) → fault ≡ Failed part → Acts old a (Err fault) out new → Steps {T = Unit {0}} old (a ∷ []) (Err part) new
  last_failed part fault is acts = failed part (subst (λ (f : BoardFault). Acts old a (Err f) out new) is acts)

-- ---- the taking of the cell, where it is taken

pub can_take : (s : Sight) (takes : Bool) → takes ≡ true → CanRun s (only_if takes (ResumeTake ∷ [])) → CanRun s (ResumeTake ∷ [])
can_take s takes is can = subst (λ (b : Bool). CanRun s (only_if b (ResumeTake ∷ []))) is can

pub taken : (old new : Sight) (takes : Bool) (result : Result (Unit {0}) Part) → takes ≡ true → Steps {T = Unit {0}} old (ResumeTake ∷ []) result new
    → Steps {T = Unit {0}} old (only_if takes (ResumeTake ∷ [])) result new
taken old new takes result is steps = subst (λ (b : Bool). Steps {T = Unit {0}} old (only_if b (ResumeTake ∷ [])) result new) (sym is) steps

pub not_taken : (s : Sight) (takes : Bool) → takes ≡ false → Steps {T = Unit {0}} s (only_if takes (ResumeTake ∷ [])) (Ok tt) s
not_taken s takes is = subst (λ (b : Bool). Steps {T = Unit {0}} s (only_if b (ResumeTake ∷ [])) (Ok tt) s) (sym is) (steps_none s)

-- ---- three lists in a row

module _ (xs ys zs all : List Action) (is : xs ++ (ys ++ zs) ≡ all) where
  pub can_first : (s0 : Sight) → CanRun s0 all → CanRun s0 xs
  can_first s0 can = can_front s0 xs (ys ++ zs) (subst (CanRun s0) (sym is) can)

  behind_first : (s0 s1 : Sight) → CanRun s0 all → Did s0 xs s1 → CanRun s1 (ys ++ zs)
  behind_first s0 s1 can did = can_rest s0 s1 xs (ys ++ zs) (subst (CanRun s0) (sym is) can) did

  pub can_second : (s0 s1 : Sight) → CanRun s0 all → Did s0 xs s1 → CanRun s1 ys
  can_second s0 s1 can did = can_front s1 ys zs (behind_first s0 s1 can did)

  pub can_third : (s0 s1 s2 : Sight) → CanRun s0 all → Did s0 xs s1 → Did s1 ys s2 → CanRun s2 zs
  can_third s0 s1 s2 can first second = can_rest s1 s2 ys zs (behind_first s0 s1 can first) second

  pub broke_first : (s0 s1 : Sight) (part : Part) → Steps {T = Unit {0}} s0 xs (Err part) s1 → Steps {T = Unit {0}} s0 all (Err part) s1
  broke_first s0 s1 part one = subst (λ (l : List Action). Steps {T = Unit {0}} s0 l (Err part) s1) is (steps_front {T = Unit {0}} s0 s1 xs (ys ++ zs) part one)

  pub broke_second : (s0 s1 s2 : Sight) (part : Part) → Steps {T = Unit {0}} s0 xs (Ok tt) s1 → Steps {T = Unit {0}} s1 ys (Err part) s2 → Steps {T = Unit {0}} s0 all (Err part) s2
  broke_second s0 s1 s2 part one two =
      subst (λ (l : List Action). Steps {T = Unit {0}} s0 l (Err part) s2) is
      (steps_behind {T = Unit {0}} s0 s1 s2 xs (ys ++ zs) (Err part) one.did one.crash (steps_front {T = Unit {0}} s1 s2 ys zs part two))

  pub three_steps : (s0 s1 s2 s3 : Sight) (result : Result (Unit {0}) Part) → Steps {T = Unit {0}} s0 xs (Ok tt) s1 → Steps {T = Unit {0}} s1 ys (Ok tt) s2
      → Steps {T = Unit {0}} s2 zs result s3 → Steps {T = Unit {0}} s0 all result s3
  three_steps s0 s1 s2 s3 result one two three =
      subst (λ (l : List Action). Steps {T = Unit {0}} s0 l result s3) is
      (steps_behind {T = Unit {0}} s0 s1 s3 xs (ys ++ zs) result one.did one.crash
      (steps_behind {T = Unit {0}} s1 s2 s3 ys zs result two.did two.crash three))
