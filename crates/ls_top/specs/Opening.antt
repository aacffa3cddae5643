-- What the opening of a directory finds.
use Rattle.std.specs.Prelude.{◌≡◌, ℕ, [], List, Result, IfOk, MatchOption}
use Rattle.ls_board.specs.declared.action.Answer.{Answer}
use Rattle.ls_board.specs.declared.action.Answer.TheVariants.{Absent, Bytes}
use Rattle.ls_board.specs.declared.action.BoardFault.{BoardFault}
use Rattle.ls_board.specs.declared.world.World.{World}
use Rattle.ls_board.specs.Acts.{Sight}
use Rattle.ls_board.specs.Effect.{file_at}
use Rattle.ls_top.specs.declared.opening.Opening.{Opening}
use Rattle.ls_top.specs.declared.opening.Opening.TheVariants.{Found, Foreign}
use Rattle.ls_top.specs.Runs.{StandsFor, HasForeignFile, SameButTouched, CallsInTurn}
use Rattle.ls_top.specs.UsersFile.{settings_0}

-- all is synced, and `settings.0` was read
pub record ReadsSettings (old : Sight) (result : Result Answer BoardFault) (out : List ℕ) (new : Sight) : Type 0 where
  pub same : SameButTouched old.world new.world
  pub calls : (users : List ℕ) → CallsInTurn old new users
  pub synced : IfOk result (λ answer. new.world.touched ≡ [])
  pub found : IfOk result (λ answer. MatchOption (file_at old.world settings_0) (answer ≡ Absent)
      (λ bytes. (answer ≡ Bytes) × (out ≡ bytes)))

-- the users for which the world stands, and there are no others; or that it stands for none
abbrev pub IsOpening : World → Opening → Type 0
IsOpening w (Found users) = StandsFor w users × ((others : List ℕ) → StandsFor w others → others ≡ users)
IsOpening w (Foreign name) = (name ≡ settings_0) × HasForeignFile w

-- all is synced, and the users were read from `settings.0`
pub record Opens (old : Sight) (result : Result Opening BoardFault) (new : Sight) : Type 0 where
  pub same : SameButTouched old.world new.world
  pub calls : (users : List ℕ) → CallsInTurn old new users
  pub synced : IfOk result (λ opening. new.world.touched ≡ [])
  pub found : IfOk result (λ opening. IsOpening old.world opening)

-- a foreign file is that of the settings
abbrev pub NamesSettings : Opening → Type 0
NamesSettings (Found users) = Unit {0}
NamesSettings (Foreign name) = name ≡ settings_0
