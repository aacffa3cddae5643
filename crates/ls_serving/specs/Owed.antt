-- What is owed of a machine, and of how a service agrees with it.
use Rattle.std.specs.Prelude.{◌≡◌, ℕ, List, length}
use Rattle.ls_board.specs.declared.action.Action.{Action}
use Rattle.ls_board.specs.declared.world.World.{World}
use Rattle.ls_board.specs.Images.{Leaves}
use Rattle.ls_lines.specs.Lines.{ended_count}
use Rattle.ls_serving.specs.Calls.{IsOuter, IsOuterMove}
use Rattle.ls_serving.specs.Machine.{Machine, reached}

pub record Owes (m : Machine) (agrees : World → m.Stage → Type 0) : Type 0 where
  -- each reply is one line
  pub ends : (at : m.Stage) (line : List ℕ) → ended_count (m.printed at line) ≡ 1
  -- the state after a line is that after its last command
  pub joins : (at : m.Stage) (line : List ℕ)
      → m.state (m.next at line) ≡ reached (m.state at) (m.states at line) (length (m.states at line))
  -- a hearing, a saying and a sync keep that it agrees, also where they fail
  pub kept : (w mid : World) (at : m.Stage) (a : Action)
      → IsOuter a → IsOuterMove w a mid → agrees w at → agrees mid at
  -- where it agrees, each image stands for the state
  pub holds : (w image : World) (at : m.Stage) → agrees w at → Leaves w image → m.stands image (m.state at)
