-- All tokens of a user.
use Rattle.std.specs.Prelude.{ℕ, ◌++◌, List, map}
use Rattle.ls_vault.specs.Tokens.{pending_of, activated}
use Rattle.ls_vault.specs.Users.{tokens_of}
use Rattle.ls_vault.specs.declared.state.State.{State}
use Rattle.ls_vault.specs.declared.token.Token.{Token}

-- the active tokens of a user, and then its pending ones
abbrev pub all_tokens : State → ℕ → List Token
all_tokens s user =
    tokens_of s.vault.users user ++ map activated (pending_of s.session.pending user)
