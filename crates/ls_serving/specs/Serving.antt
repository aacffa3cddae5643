-- What the serving of a script keeps.
use Rattle.std.specs.Prelude.{◌≡◌, ◌≤◌, ◌++◌, ◌∷◌, ℕ, List, [], length, take}
use Rattle.ls_board.specs.declared.world.World.{World}
use Rattle.ls_board.specs.Acts.{Sight}
use Rattle.ls_board.specs.Runs.{LeavesOnly}
use Rattle.ls_lines.specs.Lines.{parted, lines_of}
use Rattle.ls_serving.specs.Machine.{Machine, reached, replies_of, stage_after}
use Rattle.ls_serving.specs.Held.{SaysFront, IsHeld}
use Rattle.ls_serving.specs.Met.{Extends, NoChance}
use Rattle.ls_serving.specs.Turns.{CallsInTurn}

-- ---- a line

-- the world stands for a state on the way of this line, and says what was said
pub record IsOnTheWay (m : Machine) (said : List ℕ) (at : m.Stage) (line : List ℕ) (w : World) : Type 0 where
  pub same : w.said ≡ said
  pub done : ℕ
  pub few : done ≤ length (m.states at line)
  pub stands : m.stands w (reached (m.state at) (m.states at line) done)

-- the world stands for this state, and says what was said
pub record IsStill (m : Machine) (said : List ℕ) (s : m.State) (w : World) : Type 0 where
  pub same : w.said ≡ said
  pub stands : m.stands w s

-- of the script's lines, this one stands behind those
abbrev pub ComesNext : Sight → List (List ℕ) → List ℕ → Type 0
ComesNext start lines line = (more : List (List ℕ)) × (lines_of start.world.input ≡ lines ++ line ∷ more)

-- ---- a script

-- These lines of the script were answered, in a run that was begun at this start and stage: their
-- replies were said, all agrees with the stage after them, each image so far is held, and each call
-- was in turn.
pub record Answered (m : Machine) (agrees : World → m.Stage → Type 0) (start now : Sight) (first : m.Stage)
    (lines : List (List ℕ)) : Type 0 where
  pub more : List (List ℕ)
  pub front : lines_of start.world.input ≡ lines ++ more
  pub said : now.world.said ≡ start.world.said ++ replies_of m first lines
  pub agreed : agrees now.world (stage_after m first lines)
  pub images : LeavesOnly start now (IsHeld m start.world first)
  pub turns : CallsInTurn m start now first

-- so it is, where nothing matched by chance
pub record Serving (m : Machine) (agrees : World → m.Stage → Type 0) (start now : Sight) (first : m.Stage)
    (lines : List (List ℕ)) : Type 0 where
  pub since : Extends start now
  pub answered : NoChance m first start now → Answered m agrees start now first lines

-- the run has begun, and no byte of the script is heard yet
pub record Begun (m : Machine) (agrees : World → m.Stage → Type 0) (start now : Sight) (first : m.Stage) : Type 0 where
  pub input : now.world.input ≡ start.world.input
  pub serving : Serving m agrees start now first []

-- The run ended here, where nothing matched by chance: a front of the replies was said, each image so
-- far is held, and each call was in turn.
pub record CutShort (m : Machine) (start now : Sight) (first : m.Stage) : Type 0 where
  pub since : Extends start now
  pub says : NoChance m first start now → SaysFront m start.world first now.world
  pub images : NoChance m first start now → LeavesOnly start now (IsHeld m start.world first)
  pub turns : NoChance m first start now → CallsInTurn m start now first

-- the line's commands were done, and its reply may be said
pub record Ready (m : Machine) (agrees : World → m.Stage → Type 0) (start now : Sight) (first : m.Stage)
    (lines : List (List ℕ)) (line : List ℕ) : Type 0 where
  pub said : now.world.said ≡ start.world.said ++ replies_of m first lines
  pub agreed : agrees now.world (m.next (stage_after m first lines) line)
  pub images : LeavesOnly start now (IsHeld m start.world first)
  pub turns : CallsInTurn m start now first

-- ---- bytes

-- These bytes of the script were heard, and each line that is complete in them is answered; what is
-- kept of the next line is its first 4,097 bytes.
pub record Progress (m : Machine) (agrees : World → m.Stage → Type 0) (start now : Sight) (first : m.Stage)
    (heard line : List ℕ) : Type 0 where
  pub rest : List ℕ
  pub input : start.world.input ≡ heard ++ rest
  pub serving : Serving m agrees start now first (parted heard).whole
  pub kept : line ≡ take 4097 (parted heard).rest
