-- What a crash may leave of a run.
use Rattle.std.specs.Prelude.{◌≡◌, ◌≤◌, ◌+◌, ◌++◌, ℕ, List, length, take}
use Rattle.ls_board.specs.declared.world.World.{World}
use Rattle.ls_lines.specs.Lines.{lines_of, ended_count}
use Rattle.ls_serving.specs.Machine.{Machine, reached, replies_of, states_of}

-- how many commands so many lines of the script have
abbrev pub commands_in : (m : Machine) → m.Stage → List ℕ → ℕ → ℕ
commands_in m first script count = length (states_of m first (take count (lines_of script)))

-- A front of the replies was said.
pub record SaysFront (m : Machine) (start : World) (first : m.Stage) (w : World) : Type 0 where
  pub said : List ℕ
  pub is : w.said ≡ start.said ++ said
  pub more : List ℕ
  pub front : replies_of m first (lines_of start.input) ≡ said ++ more

-- Besides, the world stands for the state after some commands of the script: all those of the lines
-- whose reply was said to its end in this same world, and at most those of one line more.
pub record IsHeld (m : Machine) (start : World) (first : m.Stage) (w : World) : Type 0 where
  pub says : SaysFront m start first w
  pub done : ℕ
  pub enough : commands_in m first start.input (ended_count says.said) ≤ done
  pub few : done ≤ commands_in m first start.input (ended_count says.said + 1)
  pub stands : m.stands w (reached (m.state first) (states_of m first (lines_of start.input)) done)
