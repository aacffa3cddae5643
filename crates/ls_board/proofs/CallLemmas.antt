-- Calls one behind another on a board: what each may ask, what was done in all, what is kept
-- whatever they answer, and what a crash within them may leave.
use Rattle.std.proofs.Common.{◌≡◌, inl, inr, ◌≤◌, ℕ, Bool, IsTrue, List, [], ◌∷◌, ◌++◌, Option, None, Some, IsSomeAnd, length-append, refl, sym, ◌∙◌, ap, subst, arith}
use Rattle.std.specs.Prelude.{Result, Ok, Err, OnOk}
use Rattle.std.proofs.lemmas.List.Sums.{sum_by-append}
use Rattle.ls_board.specs.declared.action.Action.{Action}
use Rattle.ls_board.specs.declared.action.Answer.{Answer}
use Rattle.ls_board.specs.declared.action.BoardFault.{BoardFault}
use Rattle.ls_board.specs.declared.action.Part.{Part}
use Rattle.ls_board.specs.declared.world.World.{World}
use Rattle.ls_board.specs.Acts.{Sight, Acts, Rose}
use Rattle.ls_board.specs.Effect.{after, weight_of}
use Rattle.ls_board.specs.Images.{changing}
use Rattle.ls_board.specs.Keeping.{Keeps}
use Rattle.ls_board.specs.Planned.{IsPlanned}
use Rattle.ls_board.specs.Runs.{after_all, past_of, AllSound, AllApply, CanRun, Did, FailedAfter, LeavesOnly, PlanImage}
use Rattle.ls_board.proofs.RunLemmas.{after_all-append, apply_rest, sound_rest, did_none, did_more, started, weaker, joins, plan_start, plan_goes_on}

-- ---- what was done

pub past_of-append : (w : World) (first second : List Action) (past : List (World × Option Action))
    → past_of w (first ++ second) past ≡ past_of (after_all w first) second (past_of w first past)
past_of-append w [] second past = refl
past_of-append w (x ∷ first) second past = past_of-append (after w x 0) first second ((w, changing x) ∷ past)

pub still_told : (s0 s1 : Sight) (done : List Action) → Did s0 done s1 → IsTrue s0.told → IsTrue s1.told
still_told s0 s1 done did told = subst (λ (b : Bool). IsTrue b) (sym did.told) told

pub was_told : (s0 s1 : Sight) (done : List Action) → Did s0 done s1 → IsTrue s1.told → IsTrue s0.told
was_told s0 s1 done did told = subst (λ (b : Bool). IsTrue b) did.told told

-- one action
pub did_one : (s0 s1 : Sight) (a : Action) (answer : Answer) (out : List ℕ) → IsPlanned a → Acts s0 a (Ok answer) out s1 → Did s0 (a ∷ []) s1
did_one s0 s1 a answer out planned acts = did_more s0 s0 s1 [] a answer out planned (did_none s0) acts

-- two lists in a row
pub did_both : (s0 s1 s2 : Sight) (first second : List Action) → Did s0 first s1 → Did s1 second s2 → Did s0 (first ++ second) s2
did_both s0 s1 s2 first second one two = record {
  told = two.told ∙ one.told;
  never_fails = two.never_fails ∙ one.never_fails;
  slots = two.slots ∙ one.slots;
  actions = omega (arith, one.actions, two.actions, length-append first second);
  bytes = omega (arith, one.bytes, two.bytes, sum_by-append weight_of first second);
  faults = two.faults ∙ one.faults;
  world = λ told.
      two.world (still_told s0 s1 first one told) ∙ ap (λ (w : World). after_all w second) (one.world told) ∙ sym (after_all-append s0.world first second);
  past = λ told.
      two.past (still_told s0 s1 first one told) ∙ (λ i. past_of (one.world told i) second (one.past told i)) ∙ sym (past_of-append s0.world first second s0.past);
}

-- ---- what each may ask

sound_front : (n : ℕ) (xs ys : List Action) → AllSound n (xs ++ ys) → AllSound n xs
sound_front n [] ys sound = tt
sound_front n (a ∷ xs) ys sound = (sound.0, sound_front n xs ys sound.1)

apply_front : (w : World) (xs ys : List Action) → AllApply w (xs ++ ys) → AllApply w xs
apply_front w [] ys applies = tt
apply_front w (a ∷ xs) ys applies = (applies.0, apply_front (after w a 0) xs ys applies.1)

-- who can run two lists can run the first
pub can_front : (s : Sight) (xs ys : List Action) → CanRun s (xs ++ ys) → CanRun s xs
can_front s xs ys can = record {
  actions = let n = can.actions in omega (arith, n, length-append xs ys);
  bytes = let n = can.bytes in omega (arith, n, sum_by-append weight_of xs ys);
  sound = sound_front s.slots xs ys can.sound;
  applies = λ told. apply_front s.world xs ys (can.applies told);
}

-- and the second behind it
pub can_rest : (s0 s1 : Sight) (xs ys : List Action) → CanRun s0 (xs ++ ys) → Did s0 xs s1 → CanRun s1 ys
can_rest s0 s1 xs ys can did = record {
  actions = let n = can.actions in let d = did.actions in omega (arith, n, d, length-append xs ys);
  bytes = let n = can.bytes in let d = did.bytes in omega (arith, n, d, sum_by-append weight_of xs ys);
  sound = subst (λ (n : ℕ). AllSound n ys) (sym did.slots) (sound_rest s0.slots xs ys can.sound);
  applies = λ told.
      let was = was_told s0 s1 xs did told in
      subst (λ (w : World). AllApply w ys) (sym (did.world was)) (apply_rest s0.world xs ys (can.applies was));
}

-- of three lists
module _ (s0 s1 : Sight) (xs ys zs : List Action) (can : CanRun s0 (xs ++ (ys ++ zs))) where
  pub can_first : CanRun s0 xs
  can_first = can_front s0 xs (ys ++ zs) can

  pub can_second : Did s0 xs s1 → CanRun s1 ys
  can_second did = can_front s1 ys zs (can_rest s0 s1 xs (ys ++ zs) can did)

-- ---- what is kept

-- by a call behind actions that were done
pub keeps_behind : {T E : Type 0} {fault : Part → E} (s0 s1 s2 : Sight) (done : List Action) (result : Result T E) → Did s0 done s1 → Keeps {T = T} {E = E} fault s1 s2 result → Keeps {T = T} {E = E} fault s0 s2 result
keeps_behind s0 s1 s2 done result did keeps = record {
  told = keeps.told ∙ did.told;
  never_fails = keeps.never_fails ∙ did.never_fails;
  slots = keeps.slots ∙ did.slots;
  later = λ p. subst (λ (f : Part → ℕ). f p ≤ s2.faults p) did.faults (keeps.later p);
  quiet = subst (λ (f : Part → ℕ). OnOk result (s2.faults ≡ f)) did.faults keeps.quiet;
  other = λ e is apart. keeps.other e is apart ∙ did.faults;
  cause = λ p is. subst (λ (f : Part → ℕ). Rose (f p) (s2.faults p)) did.faults (keeps.cause p is);
}

part_same : {T : Type 0} (x y : Part) → ◌≡◌ {A = Result T Part} (Err x) (Err y) → x ≡ y
part_same x y e = cc

-- by a plan that failed
pub failed_keeps : {T : Type 0} (old new : Sight) (done : List Action) (o : Option Action) (part : Part) → IsSomeAnd o (λ a. FailedAfter old done a part new) → Keeps {T = T} {E = Part} (λ p. p) old new (Err part)
failed_keeps old new done None part none = absurd none
failed_keeps {T} old new done (Some a) part after = record {
  told = after.told;
  never_fails = after.never_fails;
  slots = after.slots;
  later = after.later;
  quiet = tt;
  other = λ e is apart. absurd (apart part (sym (part_same {T = T} part e is)));
  cause = λ p is. subst (λ (q : Part). Rose (old.faults q) (new.faults q)) (part_same {T = T} part p is) after.rose;
}

-- ---- what a crash may leave

-- an image of the first list is one of both
pub plan_front : (w : World) (xs ys : List Action) (image : World) → PlanImage w xs image → PlanImage w (xs ++ ys) image
plan_front w [] ys image left = plan_start w ys image left
plan_front w (a ∷ xs) ys image (inl left) = inl left
plan_front w (a ∷ xs) ys image (inr (inl within)) = inr (inl within)
plan_front w (a ∷ xs) ys image (inr (inr later)) = inr (inr (plan_front (after w a 0) xs ys image later))

-- and so is one of the second behind the first
pub plan_behind : (w : World) (xs ys : List Action) (image : World) → PlanImage (after_all w xs) ys image → PlanImage w (xs ++ ys) image
plan_behind w [] ys image left = left
plan_behind w (a ∷ xs) ys image left = inr (inr (plan_behind (after w a 0) xs ys image left))

-- one action, done or failed
pub act_crash : (old new : Sight) (a : Action) (result : Result Answer BoardFault) (out : List ℕ) → Acts old a result out new → IsTrue old.told → LeavesOnly old new (PlanImage old.world (a ∷ []))
act_crash old new a result out acts told =
    plan_goes_on old old new [] [] a result out (did_none old) acts
    (λ told. started old (PlanImage old.world (a ∷ [])) (λ image left. inl left)) told

-- within the first list of two
pub front_crash : (s0 s1 : Sight) (xs ys : List Action) → (IsTrue s0.told → LeavesOnly s0 s1 (PlanImage s0.world xs)) → IsTrue s0.told → LeavesOnly s0 s1 (PlanImage s0.world (xs ++ ys))
front_crash s0 s1 xs ys crash told = weaker s0 s1 (PlanImage s0.world xs) (PlanImage s0.world (xs ++ ys)) (λ image left. plan_front s0.world xs ys image left) (crash told)

-- within the second
pub next_crash : (s0 s1 s2 : Sight) (xs ys : List Action) → Did s0 xs s1 → (IsTrue s0.told → LeavesOnly s0 s1 (PlanImage s0.world xs))
    → (IsTrue s1.told → LeavesOnly s1 s2 (PlanImage s1.world ys)) → IsTrue s0.told → LeavesOnly s0 s2 (PlanImage s0.world (xs ++ ys))
next_crash s0 s1 s2 xs ys did first second told =
    joins s0 s1 s2 (PlanImage s0.world (xs ++ ys)) (front_crash s0 s1 xs ys first told)
    (weaker s1 s2 (PlanImage s1.world ys) (PlanImage s0.world (xs ++ ys))
    (λ image left. plan_behind s0.world xs ys image (subst (λ (w : World). PlanImage w ys image) (did.world told) left))
    (second (still_told s0 s1 xs did told)))

-- within the second or the third of three
module _ (s0 s1 s2 : Sight) (xs ys zs : List Action) (did : Did s0 xs s1) (first : IsTrue s0.told → LeavesOnly s0 s1 (PlanImage s0.world xs)) where
  pub second_crash : (IsTrue s1.told → LeavesOnly s1 s2 (PlanImage s1.world ys)) → IsTrue s0.told → LeavesOnly s0 s2 (PlanImage s0.world (xs ++ (ys ++ zs)))
  second_crash second = next_crash s0 s1 s2 xs (ys ++ zs) did first (front_crash s1 s2 ys zs second)

  pub third_crash : (s3 : Sight) → Did s1 ys s2 → (IsTrue s1.told → LeavesOnly s1 s2 (PlanImage s1.world ys)) → (IsTrue s2.told → LeavesOnly s2 s3 (PlanImage s2.world zs))
      → IsTrue s0.told → LeavesOnly s0 s3 (PlanImage s0.world (xs ++ (ys ++ zs)))
  third_crash s3 done second third = next_crash s0 s1 s3 xs (ys ++ zs) did first (next_crash s1 s2 s3 ys zs done second third)
