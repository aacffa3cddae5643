-- What is done in order up to an action that fails, and what is seen of it.
use Rattle.std.specs.Prelude.{◌≡◌, ◌⊎◌, ◌++◌, ◌∷◌, [], IsTrue, List, Result, Ok, Err, IfErr, OnOk}
use Rattle.ls_board.specs.declared.action.Action.{Action}
use Rattle.ls_board.specs.declared.action.Action.TheVariants.{Sync}
use Rattle.ls_board.specs.declared.action.Part.{Part}
use Rattle.ls_board.specs.declared.world.World.{World}
use Rattle.ls_board.specs.Acts.{Sight}
use Rattle.ls_board.specs.Effect.{after}
use Rattle.ls_board.specs.Images.{Within}
use Rattle.ls_board.specs.Keeping.{Keeps}
use Rattle.ls_board.specs.Runs.{Did, FailedIn, LeavesOnly, PlanImage}
use Rattle.ls_formats.specs.declared.parts.Parts.{Parts}

-- what is seen of a draft
pub record Drafted : Type 0 where
  pub parts : Parts
  pub plan : List Action

-- the part that failed, beside what came back
abbrev pub part_of_failed : {A B : Type 0} → Result A (B × Part) → Result A Part
part_of_failed (Ok a) = Ok a
part_of_failed (Err e) = Err e.1

-- the world after some of these actions, or within the next one
abbrev pub PlanWorld : World → List Action → World → Type 0
PlanWorld w [] mid = mid ≡ w
PlanWorld w (a ∷ plan) mid = (mid ≡ w) ⊎ (Within w a mid ⊎ PlanWorld (after w a 0) plan mid)

-- These were done in order, whole where it answers Ok, and otherwise up to one that failed.
pub record Steps {T : Type 0} (old : Sight) (plan : List Action) (result : Result T Part)
    (new : Sight) : Type 0 where
  pub did : OnOk result (Did old plan new)
  pub failed : IfErr result (λ part. FailedIn old plan part new)
  pub keeps : Keeps {T = T} {E = Part} (λ part. part) old new result
  pub world : IsTrue old.told → PlanWorld old.world plan new.world
  pub crash : IsTrue old.told → LeavesOnly old new (PlanImage old.world plan)

-- the actions that stage it, others, and the sync
abbrev pub building_of : Drafted → List Action → List Action
building_of d others = d.plan ++ (others ++ Sync ∷ [])
