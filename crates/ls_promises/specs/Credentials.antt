-- Present credentials of users.
use Rattle.std.specs.Prelude.{ℕ, ◌==◌, ◌&&◌, Bool, false, [], Option, option_map}
use Rattle.ls_credential.specs.declared.kind.Kind.TheVariants.{Empty}
use Rattle.ls_credential.specs.Rules.{KindAndText}
use Rattle.ls_promises.specs.Answers.{is_fine}
use Rattle.ls_script.specs.declared.command.Command.{Command}
use Rattle.ls_script.specs.declared.command.Command.TheVariants as command
use Rattle.ls_script.specs.declared.reply.Reply.{Reply}
use Rattle.ls_vault.specs.Users.{user_of}
use Rattle.ls_vault.specs.declared.state.State.{State}

-- the present credential of a user, None where there is no such user
abbrev pub credential_of : State → ℕ → Option KindAndText
credential_of s user = option_map (λ u. u.credential) (user_of s.vault.users user)

-- no credential
abbrev pub no_credential : KindAndText
no_credential = record { kind = Empty; text = [] }

-- this user was added, got another credential, or was dropped
abbrev pub renews : ℕ → Command → Reply → Bool
renews user (command.Add u escrow) r = u == user && is_fine r
renews user (command.Change u new) r = u == user && is_fine r
renews user (command.Drop u) r = u == user && is_fine r
renews user _ r = false
