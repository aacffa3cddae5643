-- In which order a run calls the board.
use Rattle.std.specs.Prelude.{◌≡◌, ◌≢◌, ◌≤◌, ◌++◌, ◌∷◌, ℕ, List, Option, Some}
use Rattle.std.specs.List.{AllByRecursion}
use Rattle.ls_board.specs.declared.action.Action.{Action}
use Rattle.ls_board.specs.declared.action.Action.TheVariants.{Hear, Say}
use Rattle.ls_board.specs.declared.world.World.{World}
use Rattle.ls_board.specs.Acts.{Sight}
use Rattle.ls_board.specs.Images.{Leaves}
use Rattle.ls_lines.specs.Lines.{parted, lines_of}
use Rattle.ls_serving.specs.Machine.{Machine, replies_of, stage_after}

-- ---- a call of a service

-- it is no hearing and no saying
pub record IsInside (call : World × Option Action) : Type 0 where
  pub no_hear : (max : ℕ) → call.1 ≢ Some (Hear max)
  pub no_say : (bytes : List ℕ) → call.1 ≢ Some (Say bytes)

-- the calls of one are those of the other, and behind them others that don't hear and don't say
pub record StaysInside (old new : Sight) : Type 0 where
  pub calls : List (World × Option Action)
  pub since : new.past ≡ calls ++ old.past
  pub each : AllByRecursion IsInside calls

-- ---- hearings and sayings

-- A hearing asks for 1 to 4,096 bytes, when each line that is complete in what was heard so far is
-- answered.
pub record HearsInTurn (m : Machine) (start : World) (first : m.Stage) (met : World) (max : ℕ) : Type 0 where
  pub some : 1 ≤ max
  pub most : max ≤ 4096
  pub heard : List ℕ
  pub input : start.input ≡ heard ++ met.input
  pub answered : met.said ≡ start.said ++ replies_of m first (parted heard).whole

-- A saying says one reply whole, that of the next line, and a crash then leaves only what stands for
-- the state after this line.
pub record SaysInTurn (m : Machine) (start : World) (first : m.Stage) (met : World) (bytes : List ℕ) : Type 0 where
  pub before : List (List ℕ)
  pub line : List ℕ
  pub more : List (List ℕ)
  pub lines : lines_of start.input ≡ before ++ line ∷ more
  pub answered : met.said ≡ start.said ++ replies_of m first before
  pub reply : bytes ≡ m.printed (stage_after m first before) line
  pub settled : (image : World) → Leaves met image
      → m.stands image (m.state (m.next (stage_after m first before) line))

-- a call of a run that was begun on this world, with the world that it met
pub record IsInTurn (m : Machine) (start : World) (first : m.Stage) (call : World × Option Action) : Type 0 where
  pub hears : (max : ℕ) → call.1 ≡ Some (Hear max) → HearsInTurn m start first call.0 max
  pub says : (bytes : List ℕ) → call.1 ≡ Some (Say bytes) → SaysInTurn m start first call.0 bytes

-- all calls since the start are in turn
pub record CallsInTurn (m : Machine) (start now : Sight) (first : m.Stage) : Type 0 where
  pub calls : List (World × Option Action)
  pub since : now.past ≡ calls ++ start.past
  pub each : AllByRecursion (IsInTurn m start.world first) calls
