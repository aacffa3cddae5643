-- What an answer to the reading of `settings.0` says.
use Rattle.std.specs.Prelude.{◌≡◌, ◌≢◌, ◌⊎◌, ℕ, [], List}
use Rattle.ls_board.specs.declared.action.Answer.{Answer}
use Rattle.ls_board.specs.declared.action.Answer.TheVariants.{Absent}
use Rattle.ls_top.specs.declared.opening.Opening.{Opening}
use Rattle.ls_top.specs.declared.opening.Opening.TheVariants.{Found, Foreign}
use Rattle.ls_top.specs.UsersFile.{settings_0, file_of, IsForeign}
use Rattle.ls_top.specs.Vault.{IsVault}

-- these are the users whose file the bytes are, and there are no others
pub record IsFileOf (bytes users : List ℕ) : Type 0 where
  pub vault : IsVault users
  pub file : bytes ≡ file_of users
  pub only : (others : List ℕ) → IsVault others → bytes ≡ file_of others → others ≡ users

-- no file is no user; else the bytes are the file of the users, or of none
abbrev pub IsFound : Answer → List ℕ → Opening → Type 0
IsFound answer bytes (Found users) =
    ((answer ≡ Absent) × (users ≡ [])) ⊎ ((answer ≢ Absent) × IsFileOf bytes users)
IsFound answer bytes (Foreign name) = (answer ≢ Absent) × (name ≡ settings_0) × IsForeign bytes
