-- How a run of calls goes on, and what a crash may leave of it.
use Rattle.std.proofs.Common.{Bool, ◌⊎◌, ◌<◌, slice_index_or, take-append-drop, ◌≡◌, inl, inr, ⊎_elim, ◌≤◌, ◌+◌, ℕ, IsTrue, List, [], ◌∷◌, ◌++◌, length, Option, take, drop, refl, sym, ◌∙◌, ap, subst, arith, length-append, append_assoc}
use Rattle.std.specs.Prelude.{Result, Ok, Err}
use Rattle.std.proofs.lemmas.List.{append-nil, drop_more}
use Rattle.std.proofs.lemmas.List.Sums.{sum_by-append, sum_by-cons}
use Rattle.ls_board.specs.declared.action.Action.{Action}
use Rattle.ls_board.specs.declared.action.Answer.{Answer}
use Rattle.ls_board.specs.declared.action.Part.{Part}
use Rattle.ls_board.specs.declared.action.BoardFault.{BoardFault}
use Rattle.ls_board.specs.declared.action.BoardFault.TheVariants.{Failed}
use Rattle.ls_board.specs.declared.world.World.{World}
use Rattle.ls_board.specs.Effect.{after, weight_of, IsSound, Applies}
use Rattle.ls_board.specs.Images.{Leaves, Within, LeavesWithin, changing}
use Rattle.ls_board.specs.Acts.{Sight, CanAct, Acts, Moves, Readies, Rose}
use Rattle.ls_board.specs.Planned.{IsPlanned}
use Rattle.ls_board.specs.Runs.{CanRun, AllPlanned, AllApply, AllSound, after_all, past_of, Did, FailedAfter, AllImages, LeavesOnly, PlanImage, ImageAt}
use Rattle.ls_board.proofs.StepLemmas.{stays, planned_count, within_call}

-- before the first call
pub started : (s : Sight) (P : World → Type 0) → ((image : World) → Leaves s.world image → P image) → LeavesOnly s s P
started s P now = record { calls = []; joined = refl; each = tt; now = now }

-- one call more, within which each image has P
pub goes_on : (old mid new : Sight) (a : Action) (result : Result Answer BoardFault) (out : List ℕ) (P : World → Type 0) → LeavesOnly old mid P → Moves mid a result out new
    → ((image : World) → LeavesWithin mid.world a image → P image) → LeavesOnly old new P
goes_on old mid new a result out P so_far m within = record {
  calls = (mid.world, changing a) ∷ so_far.calls;
  joined = m.past ∙ ap (λ (past : List (World × Option Action)). (mid.world, changing a) ∷ past) so_far.joined;
  each = (so_far.now, (λ image left. within image (within_call mid.world a image left)), so_far.each);
  now = λ image left. ⊎_elim (λ (some : Within mid.world a new.world). within image (new.world, some, left)) (λ same. so_far.now image (subst (λ (w : World). Leaves w image) same left)) (stays mid a result out new m);
}

all_append : (P : World → Type 0) (xs ys : List (World × Option Action)) → AllImages P xs → AllImages P ys → AllImages P (xs ++ ys)
all_append P [] ys all more = more
all_append P (x ∷ xs) ys all more = (all.0, all.1, all_append P xs ys all.2 more)

-- two runs in a row
pub joins : (old mid new : Sight) (P : World → Type 0) → LeavesOnly old mid P → LeavesOnly mid new P → LeavesOnly old new P
joins old mid new P first second = record {
  calls = second.calls ++ first.calls;
  joined = second.joined ∙ ap (λ (past : List (World × Option Action)). second.calls ++ past) first.joined ∙ sym (append_assoc second.calls first.calls old.past);
  each = all_append P second.calls first.calls second.each first.each;
  now = second.now;
}

all_weaker : (P Q : World → Type 0) (calls : List (World × Option Action)) → ((image : World) → P image → Q image) → AllImages P calls → AllImages Q calls
all_weaker P Q [] f all = tt
all_weaker P Q (x ∷ calls) f all = ((λ image left. f image (all.0 image left)), (λ image left. f image (all.1 image left)), all_weaker P Q calls f all.2)

pub weaker : (old new : Sight) (P Q : World → Type 0) → ((image : World) → P image → Q image) → LeavesOnly old new P → LeavesOnly old new Q
weaker old new P Q f l = record { calls = l.calls; joined = l.joined; each = all_weaker P Q l.calls f l.each; now = λ image left. f image (l.now image left) }

-- ---- a plan

-- one action more
after_all-push : (w : World) (done : List Action) (a : Action) → after_all w (done ++ a ∷ []) ≡ after (after_all w done) a 0
after_all-push w [] a = refl
after_all-push w (x ∷ done) a = after_all-push (after w x 0) done a

past_of-push : (w : World) (done : List Action) (a : Action) (past : List (World × Option Action))
    → past_of w (done ++ a ∷ []) past ≡ (after_all w done, changing a) ∷ past_of w done past
past_of-push w [] a past = refl
past_of-push w (x ∷ done) a past = past_of-push (after w x 0) done a ((w, changing x) ∷ past)

pub planned_push : (actions : List Action) (a : Action) → AllPlanned actions → IsPlanned a → AllPlanned (actions ++ a ∷ [])
planned_push [] a all planned = (planned, tt)
planned_push (x ∷ actions) a all planned = (all.0, planned_push actions a all.1 planned)

pub planned_append : (actions more : List Action) → AllPlanned actions → AllPlanned more → AllPlanned (actions ++ more)
planned_append [] more all rest = rest
planned_append (x ∷ actions) more all rest = (all.0, planned_append actions more all.1 rest)

-- what holds of a plan, of its part that is left
pub apply_rest : (w : World) (done rest : List Action) → AllApply w (done ++ rest) → AllApply (after_all w done) rest
apply_rest w [] rest all = all
apply_rest w (x ∷ done) rest all = apply_rest (after w x 0) done rest all.1

pub sound_rest : (slots : ℕ) (done rest : List Action) → AllSound slots (done ++ rest) → AllSound slots rest
sound_rest slots [] rest all = all
sound_rest slots (x ∷ done) rest all = sound_rest slots done rest all.1

pub planned_rest : (done rest : List Action) → AllPlanned (done ++ rest) → AllPlanned rest
planned_rest [] rest all = all
planned_rest (x ∷ done) rest all = planned_rest done rest all.1

-- at a place in it
pub split : (plan : List Action) (i : ℕ) (a : Action) → i < length plan → a ≡ slice_index_or plan i a → plan ≡ take i plan ++ a ∷ drop (i + 1) plan
split plan i a within is = sym (take-append-drop i plan) ∙ ap (λ (l : List Action). take i plan ++ l) (drop_more plan i a within ∙ ap (λ (b : Action). b ∷ drop (i + 1) plan) (sym is))

pub can_act : (old now : Sight) (done rest : List Action) (a : Action) → CanRun old (done ++ a ∷ rest) → Did old done now → CanAct now a
can_act old now done rest a can did = record {
  actions = omega (arith, can.actions, did.actions, length-append done (a ∷ rest));
  bytes = omega (arith, can.bytes, did.bytes, sum_by-append weight_of done (a ∷ rest), sum_by-cons weight_of a rest);
  sound = subst (λ (n : ℕ). IsSound n a) (sym did.slots) (sound_rest old.slots done (a ∷ rest) can.sound).0;
  applies = λ told.
      let was : IsTrue old.told = subst (λ (b : Bool). IsTrue b) did.told told in
      subst (λ (w : World). Applies w a) (sym (did.world was)) (apply_rest old.world done (a ∷ rest) (can.applies was)).0;
}

pub did_none : (s : Sight) → Did s [] s
did_none s = record { told = refl; never_fails = refl; slots = refl; actions = omega arith; bytes = omega arith; faults = refl; world = λ told. refl; past = λ told. refl }

pub did_more : (old now new : Sight) (done : List Action) (a : Action) (answer : Answer) (out : List ℕ) → IsPlanned a → Did old done now → Acts now a (Ok answer) out new → Did old (done ++ a ∷ []) new
did_more old now new done a answer out planned did acts = record {
  told = acts.told ∙ did.told;
  never_fails = acts.never_fails ∙ did.never_fails;
  slots = acts.slots ∙ did.slots;
  actions = omega (arith, acts.actions, did.actions, length-append done (a ∷ []));
  bytes = omega (arith, acts.bytes, did.bytes, sum_by-append weight_of done (a ∷ []), sum_by-cons weight_of a []);
  faults = acts.quiet ∙ did.faults;
  world = λ told.
      let m : Moves now a (Ok answer) out new = acts.moves (subst (λ (b : Bool). IsTrue b) (sym did.told) told) in
      m.done.1 ∙ planned_count now.world a (length out) planned ∙ ap (λ (w : World). after w a 0) (did.world told) ∙ sym (after_all-push old.world done a);
  past = λ told.
      let m : Moves now a (Ok answer) out new = acts.moves (subst (λ (b : Bool). IsTrue b) (sym did.told) told) in
      m.past ∙ (λ i. (did.world told i, changing a) ∷ did.past told i) ∙ sym (past_of-push old.world done a old.past);
}

pub did_then_failed : (old now new : Sight) (done : List Action) (a : Action) (p : Part) (out : List ℕ) → Did old done now → Acts now a (Err (Failed p)) out new → FailedAfter old done a p new
did_then_failed old now new done a p out did acts = record {
  told = acts.told ∙ did.told;
  never_fails = acts.never_fails ∙ did.never_fails;
  slots = acts.slots ∙ did.slots;
  actions = omega (arith, acts.actions, did.actions);
  bytes = omega (arith, acts.bytes, did.bytes);
  its = (acts.cause p refl).0;
  rose = subst (λ (f : Part → ℕ). Rose (f p) (new.faults p)) did.faults (acts.cause p refl).1;
  later = λ q. subst (λ (f : Part → ℕ). f q ≤ new.faults q) did.faults (acts.later q);
  world = λ told.
      let m : Moves now a (Err (Failed p)) out new = acts.moves (subst (λ (b : Bool). IsTrue b) (sym did.told) told) in
      subst (λ (w : World). Within w a new.world) (did.world told) (m.failed p refl);
  past = λ told.
      let m : Moves now a (Err (Failed p)) out new = acts.moves (subst (λ (b : Bool). IsTrue b) (sym did.told) told) in
      m.past ∙ (λ i. (did.world told i, changing a) ∷ did.past told i);
}

-- the image before a plan, and those within the action behind what was done
pub plan_start : (w : World) (plan : List Action) (image : World) → Leaves w image → PlanImage w plan image
plan_start w [] image left = left
plan_start w (a ∷ plan) image left = inl left

pub plan_within : (w : World) (done rest : List Action) (a : Action) (image : World) → LeavesWithin (after_all w done) a image → PlanImage w (done ++ a ∷ rest) image
plan_within w [] rest a image within = inr (inl within)
plan_within w (x ∷ done) rest a image within = inr (inr (plan_within (after w x 0) done rest a image within))

-- an image of two plans in a row is one of the first, or of the second behind it
pub plan_append : (w : World) (xs ys : List Action) (image : World) → PlanImage w (xs ++ ys) image → PlanImage w xs image ⊎ PlanImage (after_all w xs) ys image
plan_append w [] ys image left = inr left
plan_append w (x ∷ xs) ys image (inl left) = inl (inl left)
plan_append w (x ∷ xs) ys image (inr (inl within)) = inl (inr (inl within))
plan_append w (x ∷ xs) ys image (inr (inr later)) = ⊎_elim (λ first. inl (inr (inr first))) (λ second. inr second) (plan_append (after w x 0) xs ys image later)

pub after_all-append : (w : World) (xs ys : List Action) → after_all w (xs ++ ys) ≡ after_all (after_all w xs) ys
after_all-append w [] ys = refl
after_all-append w (x ∷ xs) ys = after_all-append (after w x 0) xs ys

-- one action more of a plan, done or failed
pub plan_goes_on : (old now new : Sight) (done rest : List Action) (a : Action) (result : Result Answer BoardFault) (out : List ℕ) → Did old done now → Acts now a result out new
    → (IsTrue old.told → LeavesOnly old now (PlanImage old.world (done ++ a ∷ rest))) → IsTrue old.told → LeavesOnly old new (PlanImage old.world (done ++ a ∷ rest))
plan_goes_on old now new done rest a result out did acts so_far told =
    goes_on old now new a result out (PlanImage old.world (done ++ a ∷ rest)) (so_far told) (acts.moves (subst (λ (b : Bool). IsTrue b) (sym did.told) told))
    (λ image within. plan_within old.world done rest a image (subst (λ (w : World). LeavesWithin w a image) (did.world told) within))

pub plan_step : (old now new : Sight) (plan : List Action) (i : ℕ) (a : Action) (result : Result Answer BoardFault) (out : List ℕ) → i < length plan → a ≡ slice_index_or plan i a
    → Did old (take i plan) now → Acts now a result out new
    → (IsTrue old.told → LeavesOnly old now (PlanImage old.world plan)) → IsTrue old.told → LeavesOnly old new (PlanImage old.world plan)
plan_step old now new plan i a result out within is did acts so_far =
    let parts = split plan i a within is in
    subst (λ (p : List Action). IsTrue old.told → LeavesOnly old new (PlanImage old.world p)) (sym parts)
    (plan_goes_on old now new (take i plan) (drop (i + 1) plan) a result out did acts (subst (λ (p : List Action). IsTrue old.told → LeavesOnly old now (PlanImage old.world p)) parts so_far))

-- making room leaves all else
pub readied : (old mid new : Sight) (P : World → Type 0) {E : Type 0} (actions bytes : ℕ) (result : Result Unit E) → LeavesOnly old mid P → Readies mid actions bytes result new → LeavesOnly old new P
readied old mid new P actions bytes result so_far ready = record {
  calls = so_far.calls;
  joined = ap (λ (s : Sight). s.past) ready.same ∙ so_far.joined;
  each = so_far.each;
  now = λ image left. so_far.now image (subst (λ (s : Sight). Leaves s.world image) ready.same left);
}

-- each image at a moment of a run has what all its images have
pub image_at : (P : World → Type 0) (calls : List (World × Option Action)) (now : World) (k : ℕ) (image : World) → AllImages P calls → ((i : World) → Leaves now i → P i) → ImageAt calls now k image → P image
image_at P [] now k image each here at = here image at.1
image_at P (call ∷ calls) now k image each here (inl last) = here image last.1
image_at P (call ∷ calls) now k image each here (inr (inl within)) = each.1 image within.1
image_at P (call ∷ calls) now k image each here (inr (inr earlier)) = image_at P calls call.0 k image each.2 each.0 earlier

-- of a run that began with no calls
pub life_image : (old new : Sight) (P : World → Type 0) (k : ℕ) (image : World) → old.past ≡ [] → LeavesOnly old new P → ImageAt new.past new.world k image → P image
life_image old new P k image fresh left at =
    image_at P left.calls new.world k image left.each left.now
    (subst (λ (past : List (World × Option Action)). ImageAt past new.world k image) (left.joined ∙ ap (λ (past : List (World × Option Action)). left.calls ++ past) fresh ∙ append-nil left.calls) at)
