-- The calls that the loop makes by itself.
use Rattle.std.specs.Prelude.{◌≡◌, ◌⊎◌, ◌++◌, ◌∷◌, ℕ, List, [], Result, OnOk, Some}
use Rattle.ls_board.specs.declared.action.Action.{Action}
use Rattle.ls_board.specs.declared.action.Action.TheVariants.{Sync, Hear, Say}
use Rattle.ls_board.specs.declared.action.BoardFault.{BoardFault}
use Rattle.ls_board.specs.declared.world.World.{World}
use Rattle.ls_board.specs.Acts.{Sight}
use Rattle.ls_board.specs.Effect.{after}
use Rattle.ls_board.specs.Images.{Within}

-- the actions of the loop: it hears, says and syncs
abbrev pub IsOuter : Action → Type 0
IsOuter Sync = Unit {0}
IsOuter (Hear max) = Unit {0}
IsOuter (Say bytes) = Unit {0}
IsOuter _ = ⊥

-- the action had some of its effect, or all of it
abbrev pub IsOuterStep : World → Action → World → Type 0
IsOuterStep w a mid = Within w a mid ⊎ ((n : ℕ) × (mid ≡ after w a n))

-- or nothing was done
abbrev pub IsOuterMove : World → Action → World → Type 0
IsOuterMove w a mid = (mid ≡ w) ⊎ IsOuterStep w a mid

-- nothing was said or heard
pub record IsSilent (old new : World) : Type 0 where
  pub said : new.said ≡ old.said
  pub input : new.input ≡ old.input

-- no call was made, or this one
abbrev pub Calls : Sight → Action → Sight → Type 0
Calls old a new =
    ((new.past ≡ old.past) × (new.world ≡ old.world))
    ⊎ ((new.past ≡ (old.world, Some a) ∷ old.past) × IsOuterStep old.world a new.world)

-- a hearing; it gives nothing only where the input is at its end
pub record Hears (old : Sight) (max : ℕ) {T : Type 0} (result : Result T BoardFault) (piece : List ℕ) (new : Sight) : Type 0 where
  pub called : Calls old (Hear max) new
  pub heard : OnOk result ((old.world.input ≡ piece ++ new.world.input) × (piece ≡ [] → old.world.input ≡ []))

-- a saying
pub record Says (old : Sight) (text : List ℕ) {T : Type 0} (result : Result T BoardFault) (new : Sight) : Type 0 where
  pub called : Calls old (Say text) new
  pub same : new.world.input ≡ old.world.input
  pub said : OnOk result (new.world.said ≡ old.world.said ++ text)

-- A sync. Where it is done no file is touched.
pub record Syncs (old : Sight) {T : Type 0} (result : Result T BoardFault) (new : Sight) : Type 0 where
  pub called : Calls old Sync new
  pub silent : IsSilent old.world new.world
  pub synced : OnOk result (new.world.touched ≡ [])
