-- When the length of a PIN is shown.
use Rattle.std.specs.Prelude.{◌≡◌, ◌≤◌, ℕ, true, length, Some}
use Rattle.ls_credential.specs.declared.kind.Kind.TheVariants.{Pin}
use Rattle.ls_vault.specs.Users.{user_of}
use Rattle.ls_vault.specs.declared.state.State.{State}
use Rattle.ls_vault.specs.declared.user.User.{User}

-- The user is there and allows it, its credential is a PIN, and it has so many digits, 6 or more.
pub record ShowsLength (s : State) (user digits : ℕ) : Type 0 where
  pub found : User
  pub there : user_of s.vault.users user ≡ Some found
  pub allowed : found.auto ≡ true
  pub pin : found.credential.kind ≡ Pin
  pub exact : digits ≡ length found.credential.text
  pub long : 6 ≤ digits
