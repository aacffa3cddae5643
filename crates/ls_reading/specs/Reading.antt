-- Looking at a world over a board, by calls that only read.
use Rattle.std.specs.Prelude.{◌≡◌, ◌++◌, ℕ, IsTrue, replicate, None, Result, IfOk}
use Rattle.ls_board.specs.declared.action.BoardFault.{BoardFault}
use Rattle.ls_board.specs.declared.action.BoardFault.TheVariants.{Failed}
use Rattle.ls_board.specs.declared.world.World.{World}
use Rattle.ls_board.specs.Acts.{Sight}
use Rattle.ls_board.specs.Images.{Leaves}
use Rattle.ls_board.specs.Keeping.{Keeps}
use Rattle.ls_board.specs.Runs.{LeavesOnly}

-- some calls that only read, each of which met the world as it stood, and no other call
pub record OnlyReads (old new : Sight) : Type 0 where
  pub count : ℕ
  pub past : new.past ≡ replicate count (old.world, None) ++ old.past

-- A reading over a board answers something that has P in the world, or that a call failed or there
-- was no memory. Nothing of the world changes, and a crash at any moment of it leaves an image of the
-- world as it stood.
pub record Reads {T : Type 0} (P : World → T → Type 0) (old : Sight) (result : Result T BoardFault)
    (new : Sight) : Type 0 where
  pub keeps : Keeps {T = T} {E = BoardFault} Failed old new result
  pub same : IsTrue old.told → new.world ≡ old.world
  pub calls : IsTrue old.told → OnlyReads old new
  pub crash : IsTrue old.told → LeavesOnly old new (Leaves old.world)
  pub finds : IsTrue old.told → IfOk result (P old.world)

-- a look: what is answered is what is seen in the world
abbrev pub Sees : {T : Type 0} → (World → T) → Sight → Result T BoardFault → Sight → Type 0
Sees {T} look old result new = Reads (λ w t. t ≡ look w) old result new
