-- What is seen of the staging of a draft, and of a sync.
use Rattle.std.proofs.Common.{◌≡◌, ℕ, IsTrue, IsSomeAnd, List, [], ◌∷◌, take, slice_get, sym, ap, subst}
use Rattle.std.specs.Prelude.{Result, Ok, Err}
use Rattle.ls_board.specs.declared.action.Action.{Action}
use Rattle.ls_board.specs.declared.action.Action.TheVariants.{Sync}
use Rattle.ls_board.specs.declared.action.Part.{Part}
use Rattle.ls_board.specs.Acts.{Sight}
use Rattle.ls_board.specs.Reach.{AllTouchOnly, SameBut}
use Rattle.ls_board.specs.Runs.{Did, FailedAfter, LeavesOnly, PlanImage}
use Rattle.ls_formats.specs.declared.parts.Parts.{Parts}
use Rattle.ls_protector.specs.Parts.{reach_of_names, reach_of_parts}
use Rattle.ls_protector.specs.Clear.{IsClearOf, KeepsVaults}
use Rattle.ls_protector.specs.Steps.{Drafted, Steps}
use Rattle.ls_protector.proofs.StepLemmas.{steps_ran, steps_broke}
use Rattle.ls_protector.proofs.StandLemmas.{world_same, parts_stand, nothing_stands}

module _ (old new : Sight) (p : Parts) (plan : List Action) (d : Drafted) (is : ◌≡◌ {A = Drafted} (record { parts = p; plan = plan }) d) (only : AllTouchOnly (reach_of_parts p) plan)
    (crash : IsTrue old.told → LeavesOnly old new (PlanImage old.world plan)) where
  its : p ≡ d.parts
  its = ap (λ (x : Drafted). x.parts) is

  but_of : (result : Result (Unit {0}) Part) → Steps {T = Unit {0}} old plan result new → IsTrue old.told → SameBut (reach_of_parts d.parts) old.world new.world
  but_of result steps told = subst (λ (q : Parts). SameBut (reach_of_parts q) old.world new.world) its (world_same (reach_of_parts p) old.world new.world plan only (steps.world told))

  stands_of : (result : Result (Unit {0}) Part) → Steps {T = Unit {0}} old plan result new → IsClearOf old d.parts → KeepsVaults old new
  stands_of result steps clear = parts_stand old new plan steps.world steps.crash p only (subst (IsClearOf old) (sym its) clear)

  pub staged_but : Did old plan new → IsTrue old.told → SameBut (reach_of_parts d.parts) old.world new.world
  staged_but did = but_of (Ok tt) (steps_ran old new plan crash did)

  pub staged_stands : Did old plan new → IsClearOf old d.parts → KeepsVaults old new
  staged_stands did = stands_of (Ok tt) (steps_ran old new plan crash did)

  module _ (at : ℕ) (part : Part) (failed : IsSomeAnd (slice_get plan at) (λ a. FailedAfter old (take at plan) a part new)) where
    pub broken_but : IsTrue old.told → SameBut (reach_of_parts d.parts) old.world new.world
    broken_but = but_of (Err part) (steps_broke old new plan crash at part failed)

    pub broken_stands : IsClearOf old d.parts → KeepsVaults old new
    broken_stands = stands_of (Err part) (steps_broke old new plan crash at part failed)

-- a sync
module _ (old new : Sight) (result : Result (Unit {0}) Part) (steps : Steps {T = Unit {0}} old (Sync ∷ []) result new) where
  pub synced_but : IsTrue old.told → SameBut (reach_of_names []) old.world new.world
  synced_but told = world_same (reach_of_names []) old.world new.world (Sync ∷ []) (tt, tt) (steps.world told)

  pub synced_stands : KeepsVaults old new
  synced_stands = nothing_stands old new (Sync ∷ []) steps.world steps.crash (tt, tt)
