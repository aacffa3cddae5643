-- A plan that failed; and one on the settings files that is run, behind the making of room.
use Rattle.std.proofs.Common.{◌≡◌, ℕ, zero, suc, IsTrue, List, [], ◌∷◌, take, slice_get, Option, Some, None, IsSomeAnd, Result, Ok, Err, refl, sym, ◌∙◌, ap, subst}
use Rattle.ls_board.specs.declared.action.Action.{Action}
use Rattle.ls_board.specs.declared.action.Part.{Part}
use Rattle.ls_board.specs.declared.world.World.{World}
use Rattle.ls_board.specs.Acts.{Sight, Readies}
use Rattle.ls_board.specs.Reach.{Reach, TouchesOnly, AllTouchOnly, SameBut}
use Rattle.ls_board.specs.Runs.{LeavesOnly, PlanImage, after_all, Did, FailedAfter}
use Rattle.ls_board.proofs.RunLemmas.{started, readied, joins, plan_start}
use Rattle.ls_board.proofs.FrameLemmas.{same_refl, same_trans, same_within, plan_same}
use Rattle.ls_settings.specs.Loaded.{settings_reach}
use Rattle.ls_settings.specs.Loading.{RunsPlan, IsMakePlan}

all_take : (reach : Reach) (n : ℕ) (plan : List Action) → AllTouchOnly reach plan → AllTouchOnly reach (take n plan)
all_take reach zero plan all = tt
all_take reach (suc n) [] all = tt
all_take reach (suc n) (a ∷ plan) all = (all.0, all_take reach n plan all.1)

all_get : (reach : Reach) (n : ℕ) (plan : List Action) (a : Action) → AllTouchOnly reach plan → slice_get plan n ≡ Some a → TouchesOnly reach a
all_get reach n [] a all e = absurd (let no : ◌≡◌ {A = Option Action} None (Some a) = e in cc)
all_get reach zero (b ∷ plan) a all e =
    let is : b ≡ a = (let same : ◌≡◌ {A = Option Action} (Some b) (Some a) = e in cc) in
    subst (TouchesOnly reach) is all.0
all_get reach (suc n) (b ∷ plan) a all e = all_get reach n plan a all.1 e

-- what a plan that failed leaves alone
pub failed_same : (reach : Reach) (old new : Sight) (plan : List Action) → AllTouchOnly reach plan → (at : ℕ) (part : Part)
    → IsSomeAnd (slice_get plan at) (λ a. FailedAfter old (take at plan) a part new) → IsTrue old.told → SameBut reach old.world new.world
failed_same reach old new plan only at part some told = by (slice_get plan at) refl some
  where
    by : (o : Option Action) → slice_get plan at ≡ o → IsSomeAnd o (λ a. FailedAfter old (take at plan) a part new) → SameBut reach old.world new.world
    by None e none = absurd none
    by (Some a) e after =
        same_trans reach old.world (after_all old.world (take at plan)) new.world (plan_same reach old.world (take at plan) (all_take reach at plan only))
        (same_within reach (after_all old.world (take at plan)) new.world a (all_get reach at plan a only e) (after.world told))

module _ (old ready : Sight) (n m : ℕ) {E : Type 0} (made : Result Unit E) (readies : Readies old n m made ready) (plan : List Action) where
  ready_world : ready.world ≡ old.world
  ready_world = ap (λ (s : Sight). s.world) readies.same

  pub ready_told : IsTrue old.told → IsTrue ready.told
  ready_told told = subst (λ (s : Sight). IsTrue s.told) (sym readies.same) told

  begun : LeavesOnly old ready (PlanImage old.world plan)
  begun = readied old old ready (PlanImage old.world plan) n m made (started old (PlanImage old.world plan) (λ image left. plan_start old.world plan image left)) readies

  -- it wasn't run
  pub not_run : {T F : Type 0} (fault : F) → RunsPlan old plan {T = T} {E = F} (Err fault) ready
  not_run fault = record {
    done = tt;
    but = subst (SameBut settings_reach old.world) (sym ready_world) (same_refl settings_reach old.world);
    crash = begun;
  }

  module _ (new : Sight) (makes : IsMakePlan plan) (crash : LeavesOnly ready new (PlanImage ready.world plan)) where
    whole_crash : LeavesOnly old new (PlanImage old.world plan)
    whole_crash = joins old ready new (PlanImage old.world plan) begun (subst (λ (w : World). LeavesOnly ready new (PlanImage w plan)) ready_world crash)

    -- it was run whole
    pub ran : {T F : Type 0} (v : T) → IsTrue old.told → Did ready plan new → RunsPlan old plan {T = T} {E = F} (Ok v) new
    ran v told did =
        let world : new.world ≡ after_all old.world plan = did.world (ready_told told) ∙ ap (λ (w : World). after_all w plan) ready_world in
        record {
          done = world;
          but = subst (SameBut settings_reach old.world) (sym world) (plan_same settings_reach old.world plan makes.only);
          crash = whole_crash;
        }

    -- it failed within an action
    pub failed : {T F : Type 0} (fault : F) → IsTrue old.told → (at : ℕ) (part : Part) → IsSomeAnd (slice_get plan at) (λ a. FailedAfter ready (take at plan) a part new) → RunsPlan old plan {T = T} {E = F} (Err fault) new
    failed fault told at part some = record {
      done = tt;
      but = subst (λ (w : World). SameBut settings_reach w new.world) ready_world (failed_same settings_reach ready new plan makes.only at part some (ready_told told));
      crash = whole_crash;
    }
