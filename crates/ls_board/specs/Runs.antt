-- Actions in a row, and what a crash at any moment of a run may leave.
use Rattle.std.specs.Prelude.{◌≡◌, ◌⊎◌, ◌≤◌, ◌+◌, ℕ, IsTrue, List, [], ◌∷◌, ◌++◌, length, sum_by, Option}
use Rattle.ls_board.specs.declared.action.Action.{Action}
use Rattle.ls_board.specs.declared.action.Part.{Part}
use Rattle.ls_board.specs.declared.world.World.{World}
use Rattle.ls_board.specs.Effect.{after, part_of, weight_of, Applies, IsSound}
use Rattle.ls_board.specs.Images.{Leaves, Within, LeavesWithin, LeavesWithinCall, changing}
use Rattle.ls_board.specs.Planned.{IsPlanned}
use Rattle.ls_board.specs.Acts.{Sight, Rose}

-- ---- lists of actions

-- the world after all of these
abbrev pub after_all : World → List Action → World
after_all w [] = w
after_all w (a ∷ actions) = after_all (after w a 0) actions

-- the calls so far, with these behind them
abbrev pub past_of : World → List Action
    → List (World × Option Action) → List (World × Option Action)
past_of w [] past = past
past_of w (a ∷ actions) past = past_of (after w a 0) actions ((w, changing a) ∷ past)

-- each is one that a plan may hold
abbrev pub AllPlanned : List Action → Type 0
AllPlanned [] = Unit {0}
AllPlanned (a ∷ actions) = IsPlanned a × AllPlanned actions

-- what each asks of the world holds in its turn
abbrev pub AllApply : World → List Action → Type 0
AllApply w [] = Unit {0}
AllApply w (a ∷ actions) = Applies w a × AllApply (after w a 0) actions

-- what each asks of any board with so many slots
abbrev pub AllSound : ℕ → List Action → Type 0
AllSound slots [] = Unit {0}
AllSound slots (a ∷ actions) = IsSound slots a × AllSound slots actions

-- the room covers the plan, and each action's condition holds in its turn
pub record CanRun (s : Sight) (plan : List Action) : Type 0 where
  pub actions : length plan ≤ s.actions
  pub bytes : sum_by weight_of plan ≤ s.bytes
  pub sound : AllSound s.slots plan
  pub applies : IsTrue s.told → AllApply s.world plan

-- these were done whole, one after another, and nothing else
pub record Did (old : Sight) (done : List Action) (new : Sight) : Type 0 where
  pub told : new.told ≡ old.told
  pub never_fails : new.never_fails ≡ old.never_fails
  pub slots : new.slots ≡ old.slots
  pub actions : new.actions + length done ≡ old.actions
  pub bytes : new.bytes + sum_by weight_of done ≡ old.bytes
  pub faults : new.faults ≡ old.faults
  pub world : IsTrue old.told → new.world ≡ after_all old.world done
  pub past : IsTrue old.told → new.past ≡ past_of old.world done old.past

-- These were done whole, and then this action failed: its part's count rose, and the world is
-- within it.
pub record FailedAfter (old : Sight) (done : List Action) (a : Action) (part : Part) (new : Sight) : Type 0 where
  pub told : new.told ≡ old.told
  pub never_fails : new.never_fails ≡ old.never_fails
  pub slots : new.slots ≡ old.slots
  pub actions : new.actions + length done + 1 ≡ old.actions
  pub bytes : new.bytes + sum_by weight_of done + weight_of a ≡ old.bytes
  pub its : part ≡ part_of a
  pub rose : Rose (old.faults part) (new.faults part)
  pub later : (p : Part) → old.faults p ≤ new.faults p
  pub world : IsTrue old.told → Within (after_all old.world done) a new.world
  pub past : IsTrue old.told
      → new.past ≡ (after_all old.world done, changing a) ∷ past_of old.world done old.past

-- One action of a plan failed, and all before it were done whole.
pub record FailedIn (old : Sight) (plan : List Action) (part : Part) (new : Sight) : Type 0 where
  pub done : List Action
  pub failing : Action
  pub left : List Action
  pub splits : plan ≡ done ++ failing ∷ left
  pub failed : FailedAfter old done failing part new

-- ---- images of a run

-- each image of these calls, between two or within one, has P
abbrev pub AllImages : (World → Type 0) → List (World × Option Action) → Type 0
AllImages P [] = Unit {0}
AllImages P (call ∷ past) =
    ((image : World) → Leaves call.0 image → P image)
    × ((image : World) → LeavesWithinCall call.0 call.1 image → P image)
    × AllImages P past

-- A crash at any moment between the two, or within a call between them, leaves an image that has P.
pub record LeavesOnly (old new : Sight) (P : World → Type 0) : Type 0 where
  pub calls : List (World × Option Action)
  pub joined : new.past ≡ calls ++ old.past
  pub each : AllImages P calls
  pub now : (image : World) → Leaves new.world image → P image

-- An image of a plan that was begun on this world: after some of its actions, or within the next
-- one.
abbrev pub PlanImage : World → List Action → World → Type 0
PlanImage w [] image = Leaves w image
PlanImage w (a ∷ plan) image =
    Leaves w image ⊎ (LeavesWithin w a image ⊎ PlanImage (after w a 0) plan image)

-- After these calls, the newest first, the world is `now`. A crash at moment k, or within the call
-- that follows it, may leave this image.
abbrev pub ImageAt : List (World × Option Action) → World → ℕ → World → Type 0
ImageAt [] now k image = (k ≡ 0) × Leaves now image
ImageAt (call ∷ calls) now k image =
    ((k ≡ length (call ∷ calls)) × Leaves now image)
    ⊎ (((k ≡ length calls) × LeavesWithinCall call.0 call.1 image) ⊎ ImageAt calls call.0 k image)
