-- Which commands a line stands for, and which of their replies is the line's.
use Rattle.std.specs.Prelude.{ℕ, Bool, true, false, List, [], ◌∷◌, find, slice_get, Option, Some, None}
use Rattle.ls_credential.specs.declared.kind.Kind.{Kind}
use Rattle.ls_script.specs.Activation.{activation}
use Rattle.ls_script.specs.declared.command.Command.{Command}
use Rattle.ls_script.specs.declared.command.Command.TheVariants as command
use Rattle.ls_script.specs.declared.reply.Reply.{Reply}
use Rattle.ls_script.specs.declared.reply.Reply.TheVariants.{No}
use Rattle.ls_script.specs.declared.script_line.ScriptLine.{ScriptLine}
use Rattle.ls_script.specs.declared.script_line.ScriptLine.TheVariants as lines

-- the commands of a line, in order; the standing is that of the user of a `token-add`
abbrev pub command_list : ScriptLine → Option (Bool × Kind) → List Command
command_list (lines.UserAdd user escrow) standing = command.Add user escrow ∷ []
command_list (lines.UserDrop user) standing = command.Drop user ∷ []
command_list (lines.Unlock user credential) standing =
    command.Attempt user credential ∷ command.Activate user ∷ []
command_list (lines.Change user old new) standing =
    command.Attempt user old ∷ command.Change user new ∷ command.Activate user ∷ []
command_list (lines.Lock user) standing = command.Lock user ∷ []
command_list (lines.Status user) standing = command.Status user ∷ []
command_list lines.Users standing = command.Users ∷ []
command_list (lines.TokenAdd user token) standing =
    command.TokenAdd user token ∷ activation user standing
command_list (lines.TokenDrop user id) standing = command.TokenDrop user id ∷ []
command_list (lines.TokenState user id) standing = command.TokenState user id ∷ []
command_list (lines.UnlockToken user id token) standing =
    command.TokenAttempt user id token ∷ command.Activate user ∷ []
command_list (lines.ChangeToken user id token new) standing =
    command.TokenAttempt user id token ∷ command.Change user new ∷ command.Activate user ∷ []
command_list (lines.EscrowOff user) standing = command.EscrowOff user ∷ []
command_list lines.ResumePrepare standing = command.Prepare ∷ []
command_list lines.ResumeArm standing = command.Arm ∷ []
command_list lines.Resume standing = command.Resume ∷ []
command_list (lines.AutoPin user on) standing = command.AutoPin user on ∷ []
command_list (lines.PinLength user) standing = command.PinLength user ∷ []

-- the user whose standing decides
abbrev pub token_user : ScriptLine → Option ℕ
token_user (lines.TokenAdd user token) = Some user
token_user _ = None

-- the place, from 0, of the command whose reply is the line's: that of the change where there is
-- one, else the first
abbrev pub reply_place : ScriptLine → ℕ
reply_place (lines.Change user old new) = 1
reply_place (lines.ChangeToken user id token new) = 1
reply_place _ = 0

-- the reply is a refusal
abbrev pub is_refusal : Reply → Bool
is_refusal (No refusal) = true
is_refusal _ = false

-- a refusal, or else the reply at the place
abbrev pub refusal_or : Option Reply → Option Reply → Option Reply
refusal_or (Some refused) reply = Some refused
refusal_or None reply = reply

-- The reply of a line whose commands were answered so, in order and up to the first refusal: that
-- refusal, or else the reply of the command that the line is named for.
abbrev pub line_reply : ScriptLine → List Reply → Option Reply
line_reply line replies =
    refusal_or (find is_refusal replies) (slice_get replies (reply_place line))
