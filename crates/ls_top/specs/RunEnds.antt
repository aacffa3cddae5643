-- What a run with the written words ends as.
use Rattle.std.specs.Prelude.{◌≡◌, ◌<◌, ◌≤◌, ◌+◌, ◌^◌, ℕ, [], List, take, drop, length}
use Rattle.ls_board.specs.declared.action.BoardFault.{BoardFault}
use Rattle.ls_board.specs.declared.world.World.{World}
use Rattle.ls_board.specs.Acts.{Sight}
use Rattle.ls_top.specs.declared.status.Status.{Status}
use Rattle.ls_top.specs.declared.status.Status.TheVariants.{Done, Foreign, TooLong}
use Rattle.ls_top.specs.Runs.{StandsFor, HasForeignFile, SameButTouched, SaysFront, HoldsFront, IsServed, CallsInTurn}
use Rattle.ls_lines.specs.Lines.{parted, lines_of}
use Rattle.ls_top.specs.Serving.{KeepsOthers, CutShort}
use Rattle.ls_top.specs.UsersFile.{settings_0}

-- the statuses that the serving gives
abbrev pub IsServeStatus : Status → Type 0
IsServeStatus Done = Unit {0}
IsServeStatus (Foreign name at) = (name ≡ settings_0) × (at ≡ 0)
IsServeStatus TooLong = Unit {0}
IsServeStatus _ = ⊥

-- what the end of a run leaves, from a world that stood for these users
pub record Leaves (start now : Sight) (users : List ℕ) : Type 0 where
  pub said : SaysFront start.world now.world users
  pub held : HoldsFront start.world now.world users
  pub calls : CallsInTurn start now users

-- what a status of the serving says of the world at the start and at the end
abbrev pub HasEnd : World → World → Status → Type 0
HasEnd start now Done =
    (length start.input ≤ 2 ^ 30) × (now.input ≡ [])
    × ((users : List ℕ) × StandsFor start users)
    × ((users : List ℕ) → StandsFor start users → IsServed start now users (lines_of start.input))
HasEnd start now (Foreign name at) = HasForeignFile start × SameButTouched start now
HasEnd start now TooLong =
    (2 ^ 30 < length start.input) × (now.input ≡ drop (2 ^ 30 + 1) start.input)
    × ((users : List ℕ) × StandsFor start users)
    × ((users : List ℕ) → StandsFor start users
    → IsServed start now users (parted (take (2 ^ 30) start.input)).whole)
HasEnd start now _ = ⊥

-- the serving ended by itself
pub record EndsAs (start now : Sight) (status : Status) : Type 0 where
  pub end : HasEnd start.world now.world status
  pub leaves : (users : List ℕ) → StandsFor start.world users → Leaves start now users
  pub others : KeepsOthers start.world now.world

-- a fault or want of memory ended it
pub record StopsAs (start now : Sight) (fault : BoardFault) : Type 0 where
  pub cut : (users : List ℕ) → StandsFor start.world users → CutShort start now users fault
  pub foreign : HasForeignFile start.world → SameButTouched start.world now.world
  pub others : KeepsOthers start.world now.world
