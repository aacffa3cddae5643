-- Secrets of users.
use Rattle.std.specs.Prelude.{ℕ, ◌==◌, Bool, false, Option, option_map}
use Rattle.ls_script.specs.declared.command.Command.{Command}
use Rattle.ls_script.specs.declared.command.Command.TheVariants as command
use Rattle.ls_secret.specs.Derivation.{derived_of}
use Rattle.ls_secret.specs.Secrets.{SecretValue}
use Rattle.ls_secret.specs.declared.derived.Derived.{Derived}
use Rattle.ls_vault.specs.Users.{user_of}
use Rattle.ls_vault.specs.declared.state.State.{State}

-- the secret of a user, None where there is no such user
abbrev pub secret_of : State → ℕ → Option SecretValue
secret_of s user = option_map (λ u. u.secret) (user_of s.vault.users user)

-- the keys that are derived from it
abbrev pub derived_at : State → ℕ → Option Derived
derived_at s user = option_map derived_of (secret_of s user)

-- the command makes this user or removes it
abbrev pub makes_or_removes : ℕ → Command → Bool
makes_or_removes user (command.Add u escrow) = u == user
makes_or_removes user (command.Drop u) = u == user
makes_or_removes user _ = false
