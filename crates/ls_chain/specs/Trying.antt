-- A device asked on the way, and the world looked at behind its answer.
use Rattle.std.specs.Prelude.{◌≡◌, IsTrue, Option, None, Some, Result, Ok, Err}
use Rattle.ls_board.specs.declared.action.Action.{Action}
use Rattle.ls_board.specs.declared.world.World.{World}
use Rattle.ls_board.specs.Acts.{Sight}
use Rattle.ls_board.specs.Effect.{after}
use Rattle.ls_board.specs.Images.{Leaves, LeavesWithin}
use Rattle.ls_board.specs.Keeping.{Keeps}
use Rattle.ls_board.specs.Runs.{LeavesOnly}
use Rattle.ls_chain.specs.Calling.{CallsAtMost}
use Rattle.ls_chain.specs.declared.fault.Spot.{Spot}
use Rattle.ls_chain.specs.declared.fault.ChainFault.{ChainFault}
use Rattle.ls_chain.specs.declared.fault.ChainFault.TheVariants.{Corrupt, Failed, Memory}
use Rattle.ls_chain.specs.Looking.{Finds}

-- a call that was answered, and found memory
abbrev pub OnAnswer : {T : Type 0} → Result T ChainFault → Type 0 → Type 0
OnAnswer (Ok t) P = P
OnAnswer (Err (Corrupt spot)) P = P
OnAnswer (Err (Failed part)) P = Unit {0}
OnAnswer (Err Memory) P = Unit {0}

-- ---- one device

-- A device was asked by this action, and then the world was looked at. Where it was answered, the
-- world is that after the action; whatever comes, it is that or the old one.
pub record Tries {T : Type 0} (a : Action) (look : World → Result T Spot) (old : Sight)
    (result : Result T ChainFault) (new : Sight) : Type 0 where
  pub keeps : Keeps {T = T} {E = ChainFault} Failed old new result
  pub asked : IsTrue old.told → OnAnswer result (new.world ≡ after old.world a 0)
  pub calls : IsTrue old.told → CallsAtMost (Some a) old new
  pub crash : IsTrue old.told → LeavesOnly old new (LeavesWithin old.world a)
  pub finds : IsTrue old.told → Finds (look old.world) result

-- ---- one device, or none

-- what an answer leads to, and nothing where a file is at fault
abbrev pub asked_of : {A : Type 0} → Result A Spot → (A → Option Action) → Option Action
asked_of (Ok a) ask = ask a
asked_of (Err e) ask = None

-- the world where the device was asked, or where none was
abbrev pub after_asked : World → Option Action → World
after_asked w None = w
after_asked w (Some a) = after w a 0

-- a crash leaves what it may leave within that action, or an image of the world
abbrev pub LeavesAsked : World → Option Action → World → Type 0
LeavesAsked w None image = Leaves w image
LeavesAsked w (Some a) image = LeavesWithin w a image

-- The world was looked at, at most one device was asked on the way, by the action that the world
-- says, and where the call was answered the world is that after it.
pub record MayTry {T : Type 0} (ask : World → Option Action) (look : World → Result T Spot)
    (old : Sight) (result : Result T ChainFault) (new : Sight) : Type 0 where
  pub keeps : Keeps {T = T} {E = ChainFault} Failed old new result
  pub asked : IsTrue old.told → OnAnswer result (new.world ≡ after_asked old.world (ask old.world))
  pub calls : IsTrue old.told → CallsAtMost (ask old.world) old new
  pub crash : IsTrue old.told → LeavesOnly old new (LeavesAsked old.world (ask old.world))
  pub finds : IsTrue old.told → Finds (look old.world) result
