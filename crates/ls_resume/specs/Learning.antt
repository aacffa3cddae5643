-- What a call over a board learns of its world, and the action that it does on the way.
use Rattle.std.specs.Prelude.{◌≡◌, ◌⊎◌, IsTrue, Option, Result, Ok, Err, IfOk, OnOk}
use Rattle.ls_board.specs.declared.action.Action.{Action}
use Rattle.ls_board.specs.declared.action.BoardFault.{BoardFault}
use Rattle.ls_board.specs.declared.action.BoardFault.TheVariants.{Failed as BoardFailed, Memory as BoardMemory}
use Rattle.ls_board.specs.declared.world.World.{World}
use Rattle.ls_board.specs.Acts.{Sight}
use Rattle.ls_board.specs.Keeping.{Keeps}
use Rattle.ls_board.specs.Runs.{LeavesOnly}
use Rattle.ls_chain.specs.Calling.{CallsAtMost}
use Rattle.ls_chain.specs.declared.fault.Spot.{Spot}
use Rattle.ls_chain.specs.declared.fault.ChainFault.{ChainFault}
use Rattle.ls_chain.specs.declared.fault.ChainFault.TheVariants.{Corrupt, Failed, Memory}
use Rattle.ls_chain.specs.Trying.{after_asked, LeavesAsked}

-- A call over a board does at most this one action that changes something, and answers what the look
-- finds in the world that it met; or a call failed, or there was no memory. The world is the one
-- behind that action where it answers, and that or the old one else. A crash at any moment of it
-- leaves an image of the old world, or one within that action.
pub record Learns {T : Type 0} (a : Option Action) (look : World → T) (old : Sight)
    (result : Result T BoardFault) (new : Sight) : Type 0 where
  pub keeps : Keeps {T = T} {E = BoardFault} BoardFailed old new result
  pub done : IsTrue old.told → OnOk result (new.world ≡ after_asked old.world a)
  pub left : IsTrue old.told → (new.world ≡ old.world) ⊎ (new.world ≡ after_asked old.world a)
  pub calls : IsTrue old.told → CallsAtMost a old new
  pub crash : IsTrue old.told → LeavesOnly old new (LeavesAsked old.world a)
  pub finds : IsTrue old.told → IfOk result (λ t. t ≡ look old.world)

-- what a chain found or what is at fault in it, told in another way; or why the board didn't answer
abbrev pub told_as : {A B : Type 0} → (Result A Spot → B) → Result A ChainFault → Result B BoardFault
told_as tell (Ok a) = Ok (tell (Ok a))
told_as tell (Err (Corrupt spot)) = Ok (tell (Err spot))
told_as tell (Err (Failed part)) = Err (BoardFailed part)
told_as tell (Err Memory) = Err BoardMemory
