-- Which calls were made, whatever they answered.
use Rattle.std.specs.Prelude.{◌≡◌, ◌++◌, List, Option, IfSome}
use Rattle.std.specs.List.{AllByRecursion}
use Rattle.ls_board.specs.declared.action.Action.{Action}
use Rattle.ls_board.specs.declared.world.World.{World}
use Rattle.ls_board.specs.Acts.{Sight}
use Rattle.ls_board.specs.Reach.{Reach, TouchesOnly}

-- a call that may change nothing, or nothing but what is reached
abbrev pub CallTouchesOnly : Reach → World × Option Action → Type 0
CallTouchesOnly reach call = IfSome call.1 (TouchesOnly reach)

-- The calls of one are those of the other, and behind them others, each of which changes nothing but
-- what is reached. None of them hears, says or draws anything or takes a moment.
pub record CallsTouchOnly (reach : Reach) (old new : Sight) : Type 0 where
  pub calls : List (World × Option Action)
  pub since : new.past ≡ calls ++ old.past
  pub each : AllByRecursion (CallTouchesOnly reach) calls
