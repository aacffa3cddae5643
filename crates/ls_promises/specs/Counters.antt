-- Counters of wrong texts.
use Rattle.std.specs.Prelude.{ℕ, Option, option_map}
use Rattle.ls_vault.specs.Users.{user_of}
use Rattle.ls_vault.specs.declared.state.State.{State}

-- how many wrong texts are counted for a user, None where there is no such user
abbrev pub fails_of : State → ℕ → Option ℕ
fails_of s user = option_map (λ u. u.fails) (user_of s.vault.users user)

-- the moment before which no text of the user is looked at
abbrev pub until_of : State → ℕ → Option ℕ
until_of s user = option_map (λ u. u.until) (user_of s.vault.users user)
