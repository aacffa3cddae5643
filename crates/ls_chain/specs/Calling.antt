-- Which calls a look or an attempt makes, whatever it answers.
use Rattle.std.specs.Prelude.{◌≡◌, ◌⊎◌, ◌++◌, ◌∷◌, List, Option, None}
use Rattle.std.specs.List.{AllByRecursion}
use Rattle.ls_board.specs.declared.action.Action.{Action}
use Rattle.ls_board.specs.declared.world.World.{World}
use Rattle.ls_board.specs.Acts.{Sight}

-- a call that only reads, or one of this action
abbrev pub ReadsOrAsks : Option Action → World × Option Action → Type 0
ReadsOrAsks a call = (call.1 ≡ None) ⊎ (call.1 ≡ a)

-- The calls of one are those of the other, and behind them others, each of which only reads or is of
-- this action; with None each only reads.
pub record CallsAtMost (a : Option Action) (old new : Sight) : Type 0 where
  pub calls : List (World × Option Action)
  pub since : new.past ≡ calls ++ old.past
  pub each : AllByRecursion (ReadsOrAsks a) calls

-- The first call behind those of the one is a reading, which met its world.
abbrev pub BeginsByReading : Sight → Sight → Type 0
BeginsByReading old new =
    (later : List (World × Option Action)) × (new.past ≡ later ++ (old.world, None) ∷ old.past)
