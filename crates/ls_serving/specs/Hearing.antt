-- A script that is heard whole.
use Rattle.std.specs.Prelude.{◌≡◌, ◌≤◌, ◌<◌, ◌+◌, ◌++◌, ℕ, List, [], length, drop, Option, Some}
use Rattle.std.specs.List.{AllByRecursion}
use Rattle.ls_board.specs.declared.action.Action.{Action}
use Rattle.ls_board.specs.declared.action.Action.TheVariants.{Hear}
use Rattle.ls_board.specs.declared.world.World.{World}
use Rattle.ls_board.specs.Acts.{Sight}
use Rattle.ls_serving.specs.declared.script.Heard.{Heard}
use Rattle.ls_serving.specs.declared.script.Heard.TheVariants.{All, TooLong}

-- a hearing of 1 to 4,096 bytes
pub record IsHearing (call : World × Option Action) : Type 0 where
  pub max : ℕ
  pub is : call.1 ≡ Some (Hear max)
  pub some : 1 ≤ max
  pub most : max ≤ 4096

-- hearings alone were called, and nothing but the input is another
pub record OnlyHears (old new : Sight) : Type 0 where
  pub calls : List (World × Option Action)
  pub since : new.past ≡ calls ++ old.past
  pub each : AllByRecursion IsHearing calls
  pub same : new.world ≡ record old.world { input = new.world.input }

-- what was heard of an input, of which a script may have so many bytes
abbrev pub IsHeard : ℕ → World → World → Heard → Type 0
IsHeard longest old new (All text) = (old.input ≡ text) × (length text ≤ longest) × (new.input ≡ [])
IsHeard longest old new TooLong = (longest < length old.input) × (new.input ≡ drop (longest + 1) old.input)
