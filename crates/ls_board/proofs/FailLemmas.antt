-- A plan of which an action failed.
use Rattle.std.proofs.Common.{◌≡◌, ◌≤◌, ℕ, zero, suc, Bool, IsTrue, List, [], ◌∷◌, ◌++◌, take, drop, slice_get, Option, None, Some, IsSomeAnd, length-append, append_assoc, refl, sym, ◌∙◌, ap, subst, arith}
use Rattle.std.specs.Prelude.{Result, Err}
use Rattle.std.proofs.lemmas.List.Sums.{sum_by-append}
use Rattle.ls_board.specs.declared.action.Action.{Action}
use Rattle.ls_board.specs.declared.action.Part.{Part}
use Rattle.ls_board.specs.declared.world.World.{World}
use Rattle.ls_board.specs.Acts.{Sight, Rose}
use Rattle.ls_board.specs.Effect.{weight_of}
use Rattle.ls_board.specs.Images.{Within, changing}
use Rattle.ls_board.specs.Keeping.{Keeps}
use Rattle.ls_board.specs.Runs.{after_all, past_of, Did, FailedAfter, FailedIn}
use Rattle.ls_board.proofs.RunLemmas.{after_all-append}
use Rattle.ls_board.proofs.CallLemmas.{still_told, past_of-append}

-- a list at a place in it
splits_at : (plan : List Action) (at : ℕ) (a : Action) → slice_get plan at ≡ Some a → plan ≡ take at plan ++ a ∷ drop (suc at) plan
splits_at [] at a e = absurd (let no : ◌≡◌ {A = Option Action} None (Some a) = e in cc)
splits_at (b ∷ plan) zero a e =
    let is : b ≡ a = (let same : ◌≡◌ {A = Option Action} (Some b) (Some a) = e in cc) in
    ap (λ (x : Action). x ∷ plan) is
splits_at (b ∷ plan) (suc at) a e = ap (λ (l : List Action). b ∷ l) (splits_at plan at a e)

-- what failed at a place
pub failed_at : (old new : Sight) (plan : List Action) (at : ℕ) (part : Part) → IsSomeAnd (slice_get plan at) (λ a. FailedAfter old (take at plan) a part new) → FailedIn old plan part new
failed_at old new plan at part some = by (slice_get plan at) refl some
  where
    by : (o : Option Action) → slice_get plan at ≡ o → IsSomeAnd o (λ a. FailedAfter old (take at plan) a part new) → FailedIn old plan part new
    by None e none = absurd none
    by (Some a) e after = record { done = take at plan; failing = a; left = drop (suc at) plan; splits = splits_at plan at a e; failed = after }

-- in the first of two lists
pub failed_front : (old new : Sight) (xs ys : List Action) (part : Part) → FailedIn old xs part new → FailedIn old (xs ++ ys) part new
failed_front old new xs ys part f = record {
  done = f.done;
  failing = f.failing;
  left = f.left ++ ys;
  splits = ap (λ (l : List Action). l ++ ys) f.splits ∙ append_assoc f.done (f.failing ∷ f.left) ys;
  failed = f.failed;
}

-- in the second, behind the first
pub failed_behind : (s0 s1 s2 : Sight) (xs ys : List Action) (part : Part) → Did s0 xs s1 → FailedIn s1 ys part s2 → FailedIn s0 (xs ++ ys) part s2
failed_behind s0 s1 s2 xs ys part did f = record {
  done = xs ++ f.done;
  failing = f.failing;
  left = f.left;
  splits = ap (λ (l : List Action). xs ++ l) f.splits ∙ sym (append_assoc xs f.done (f.failing ∷ f.left));
  failed = record {
    told = f.failed.told ∙ did.told;
    never_fails = f.failed.never_fails ∙ did.never_fails;
    slots = f.failed.slots ∙ did.slots;
    actions = let n = f.failed.actions in let d = did.actions in omega (arith, n, d, length-append xs f.done);
    bytes = let n = f.failed.bytes in let d = did.bytes in omega (arith, n, d, sum_by-append weight_of xs f.done);
    its = f.failed.its;
    rose = subst (λ (c : Part → ℕ). Rose (c part) (s2.faults part)) did.faults f.failed.rose;
    later = λ p. subst (λ (c : Part → ℕ). c p ≤ s2.faults p) did.faults (f.failed.later p);
    world = λ told.
        subst (λ (w : World). Within w f.failing s2.world) (ap (λ (w : World). after_all w f.done) (did.world told) ∙ sym (after_all-append s0.world xs f.done))
        (f.failed.world (still_told s0 s1 xs did told));
    past = λ told.
        f.failed.past (still_told s0 s1 xs did told)
        ∙ (λ i. (after_all (did.world told i) f.done, changing f.failing) ∷ past_of (did.world told i) f.done (did.past told i))
        ∙ (λ i. (sym (after_all-append s0.world xs f.done) i, changing f.failing) ∷ sym (past_of-append s0.world xs f.done s0.past) i);
  };
}

part_same : {T : Type 0} (x y : Part) → ◌≡◌ {A = Result T Part} (Err x) (Err y) → x ≡ y
part_same x y e = cc

-- what it keeps
pub failed_in_keeps : {T : Type 0} (old new : Sight) (plan : List Action) (part : Part) → FailedIn old plan part new → Keeps {T = T} {E = Part} (λ p. p) old new (Err part)
failed_in_keeps {T} old new plan part f = record {
  told = f.failed.told;
  never_fails = f.failed.never_fails;
  slots = f.failed.slots;
  later = f.failed.later;
  quiet = tt;
  other = λ e is apart. absurd (apart part (sym (part_same {T = T} part e is)));
  cause = λ p is. subst (λ (q : Part). Rose (old.faults q) (new.faults q)) (part_same {T = T} part p is) f.failed.rose;
}
