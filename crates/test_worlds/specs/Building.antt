-- Plans that may come before a commit.
use Rattle.std.specs.Prelude.{ℕ, List}
use Rattle.ls_record.specs.Rows.{Rec}
use Rattle.ls_board.specs.declared.action.Action.{Action}
use Rattle.ls_board.specs.declared.world.World.{World}
use Rattle.ls_board.specs.Reach.{AllTouchOnly}
use Rattle.ls_board.specs.Runs.{AllApply, AllSound}
use Rattle.ls_standing.specs.Quiet.{unnamed}

-- Any board may be asked to do these in any world, and they reach nothing that the record names.
pub record Fits (w : World) (r : Rec) (plan : List Action) : Type 0 where
  pub sound : (slots : ℕ) → AllSound slots plan
  pub applies : (v : World) → AllApply v plan
  pub touches : AllTouchOnly (unnamed w r) plan
