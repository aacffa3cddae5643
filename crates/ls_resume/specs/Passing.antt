-- A call over a board that does some actions, as the world says, and looks at the world.
use Rattle.std.specs.Prelude.{◌≡◌, IsTrue, Result, IfOk, OnOk}
use Rattle.ls_board.specs.declared.action.BoardFault.{BoardFault}
use Rattle.ls_board.specs.declared.action.BoardFault.TheVariants.{Failed as BoardFailed}
use Rattle.ls_board.specs.declared.world.World.{World}
use Rattle.ls_board.specs.Acts.{Sight}
use Rattle.ls_board.specs.Keeping.{Keeps}
use Rattle.ls_board.specs.Runs.{LeavesOnly}

-- The call answers what the look finds in the world that it met, and then the world is that behind
-- its actions; or a call failed, or there was no memory. A crash at any moment of it leaves one of
-- these images.
pub record Passes {T : Type 0} (behind : World → World) (Image : World → World → Type 0)
    (look : World → T) (old : Sight) (result : Result T BoardFault) (new : Sight) : Type 0 where
  pub keeps : Keeps {T = T} {E = BoardFault} BoardFailed old new result
  pub done : IsTrue old.told → OnOk result (new.world ≡ behind old.world)
  pub crash : IsTrue old.told → LeavesOnly old new (Image old.world)
  pub finds : IsTrue old.told → IfOk result (λ t. t ≡ look old.world)
