-- That what is offered to unlock a user matches by being equal only.
use Rattle.std.specs.Prelude.{◌≡◌, ℕ, List, Some, Ok}
use Rattle.ls_board.specs.declared.world.World.{World}
use Rattle.ls_board.specs.Effect.{file_at}
use Rattle.ls_credential.specs.Rules.{KindAndText}
use Rattle.ls_naming.specs.Current.{Settled, current}
use Rattle.ls_record.specs.declared.row.UserRow.{UserRow}
use Rattle.ls_script.specs.declared.command.Command.{Command}
use Rattle.ls_script.specs.declared.command.Command.TheVariants as command
use Rattle.ls_sealing.specs.Apart.{IsApart, IsTokenApart}
use Rattle.ls_sealing.specs.Protectors.{held}
use Rattle.ls_standing.specs.Named.{credential_of, token_of as token_at}
use Rattle.ls_turn.specs.Refusing.{row_of}
use Rattle.ls_vault.specs.declared.state.State.{State}
use Rattle.ls_vault.specs.declared.token.Token.{Token}
use Rattle.ls_vault.specs.declared.user.User.{User}
use Rattle.ls_vault.specs.Tokens.{token_of}
use Rattle.ls_vault.specs.Users.{user_of}

-- The devices of the user's credential take no other text of its kind for it.
abbrev pub IsFairText : ℕ → KindAndText → World → State → Type 0
IsFairText user offered w s = (t : Settled) → current (file_at w) ≡ Ok t
    → (row : UserRow) → row_of t.rec user ≡ Some row
    → (u : User) → user_of s.vault.users user ≡ Some u
    → IsApart row.protector (held w (credential_of row)) u.credential offered

-- The blob of the user's token opens by no other bytes.
abbrev pub AreFairBytes : ℕ → ℕ → List ℕ → World → State → Type 0
AreFairBytes user id offered w s = (t : Settled) → current (file_at w) ≡ Ok t
    → (row : UserRow) → row_of t.rec user ≡ Some row
    → (u : User) → user_of s.vault.users user ≡ Some u
    → (token : Token) → token_of u.tokens id ≡ Some token
    → IsTokenApart (held w (token_at row id)) token.bytes offered

-- Nothing that a command offers matches by chance in the world; most offer nothing.
abbrev pub IsFair : Command → World → State → Type 0
IsFair (command.Attempt user offered) w s = IsFairText user offered w s
IsFair (command.TokenAttempt user id offered) w s = AreFairBytes user id offered w s
IsFair _ w s = Unit {0}
