-- What a crash may leave of a run whose first call is a sync, on a world in which files may be touched.
use Rattle.std.specs.Prelude.{◌≡◌, ◌≢◌, ◌⊎◌, ◌++◌, ◌∷◌, List, [], Option, Some}
use Rattle.ls_board.specs.declared.action.Action.{Action}
use Rattle.ls_board.specs.declared.action.Action.TheVariants.{Sync}
use Rattle.ls_board.specs.declared.world.World.{World}
use Rattle.ls_board.specs.Acts.{Sight}
use Rattle.ls_board.specs.Images.{Leaves}
use Rattle.ls_board.specs.Runs.{AllImages}

-- From the sync on a crash leaves only images that have P: at each call behind it, before the call and
-- within it; and at the end, if there is such a call or no file is touched.
pub record LeavesOnlySettled (old new : Sight) (P : World → Type 0) : Type 0 where
  -- the calls behind the sync
  pub calls : List (World × Option Action)
  pub joined : (new.past ≡ old.past) ⊎ (new.past ≡ calls ++ (old.world, Some Sync) ∷ old.past)
  pub each : AllImages P calls
  pub now : (new.world.touched ≡ []) ⊎ (calls ≢ []) → (image : World) → Leaves new.world image → P image
