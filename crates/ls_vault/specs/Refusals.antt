-- When a command is refused.
use Rattle.std.specs.Prelude.{ℕ, ◌-◌, ◌==◌, ◌&&◌, ◌||◌, nat_lt, nat_le, not, Bool, if◌then◌else◌}
use Rattle.std.specs.Prelude.{List, length, Option, Some, None, bytes_eq}
use Rattle.ls_credential.specs.Rules.{KindAndText}
use Rattle.ls_script.specs.declared.command.Command.{Command}
use Rattle.ls_script.specs.declared.command.Command.TheVariants as command
use Rattle.ls_script.specs.declared.reply.Refusal.{Refusal}
use Rattle.ls_script.specs.declared.reply.Refusal.TheVariants.{NoUser, UserExists, UserLimit}
use Rattle.ls_script.specs.declared.reply.Refusal.TheVariants.{WrongKind, Throttled, NoEscrow}
use Rattle.ls_script.specs.declared.reply.Refusal.TheVariants.{NoToken, WrongToken, TokenLimit}
use Rattle.ls_script.specs.declared.reply.Refusal.TheVariants.{NoSlot, Locked, NotPrepared}
use Rattle.ls_script.specs.declared.reply.Refusal.TheVariants.{NotArmed, Worn}
use Rattle.ls_vault.specs.declared.state.State.{State}
use Rattle.ls_vault.specs.declared.token.Token.{Token}
use Rattle.ls_vault.specs.declared.user.User.{User}
use Rattle.ls_arming.specs.declared.arming.Arming.{Arming}
use Rattle.ls_vault.specs.Kinds.{same_kind}
use Rattle.ls_vault.specs.Limits.{most_users, most_tokens, is_worn, is_full, token_count}
use Rattle.ls_vault.specs.Tokens.{token_of, is_active, is_pending}
use Rattle.ls_vault.specs.Users.{user_of, is_user}
use Rattle.ls_arming.specs.Numbers.{contains}

-- the user is opened
abbrev pub is_opened : State → ℕ → Bool
is_opened s user = contains s.session.opened user

-- a flag is to be another
abbrev pub differs : Bool → Bool → Bool
differs old new = (old && not new) || (new && not old)

-- ---- one command

-- nothing can be kept any more
abbrev pub worn_refusal : State → Option Refusal
worn_refusal s = if is_worn s then Some Worn else None

-- a user isn't added: it is there, there are as many as may be, or there is no place for it
abbrev pub add_refusal : ℕ → State → ℕ → Option Refusal
add_refusal slots s user =
    if is_user s.vault.users user then Some UserExists
    else if nat_le most_users (length s.vault.users) then Some UserLimit
    else if is_full slots s then Some NoSlot
    else worn_refusal s

-- an offered credential isn't looked at: it is of another kind, or the moment is too early
abbrev pub attempt_refusal : KindAndText → ℕ → User → Option Refusal
attempt_refusal offered moment u =
    if not (same_kind offered.kind u.credential.kind) then Some (WrongKind u.credential.kind)
    else if nat_lt moment u.until then Some (Throttled (u.until - moment))
    else None

-- a user has to be opened
abbrev pub locked_refusal : State → ℕ → Option Refusal
locked_refusal s user = if is_opened s user then None else Some Locked

-- a credential isn't replaced: the user is closed, or there is no place for another
abbrev pub change_refusal : ℕ → State → ℕ → Option Refusal
change_refusal slots s user =
    if not (is_opened s user) then Some Locked
    else if is_full slots s then Some NoSlot
    else worn_refusal s

-- a token isn't added: the user may have none, or has as many as may be
abbrev pub token_add_refusal : State → ℕ → User → Option Refusal
token_add_refusal s user u =
    if not u.escrow then Some NoEscrow
    else if nat_le most_tokens (token_count s user) then Some TokenLimit
    else None

-- a token isn't dropped: it isn't there, or it is active and nothing can be kept
abbrev pub token_drop_refusal : State → ℕ → ℕ → Option Refusal
token_drop_refusal s user id =
    if not (is_pending s user id || is_active s user id) then Some NoToken
    else if is_active s user id then worn_refusal s
    else None

-- offered bytes don't open: no active token has the id, or its bytes are others
abbrev pub bytes_refusal : List ℕ → Option Token → Option Refusal
bytes_refusal offered None = Some NoToken
bytes_refusal offered (Some t) = if bytes_eq offered t.bytes then None else Some WrongToken

-- tokens aren't ended: the user may have none anyway, or nothing can be kept
abbrev pub escrow_off_refusal : State → User → Option Refusal
escrow_off_refusal s u = if not u.escrow then Some NoEscrow else worn_refusal s

-- nothing is armed: it wasn't prepared, no user was unlocked since, or nothing can be kept
abbrev pub arm_refusal : State → Option Refusal
arm_refusal s =
    if not s.session.prepared then Some NotPrepared
    else if length s.session.captured == 0 then Some Locked
    else worn_refusal s

-- nothing was armed
abbrev pub resume_refusal : Option Arming → Option Refusal
resume_refusal None = Some NotArmed
resume_refusal (Some arming) = None

-- the flag isn't set: the user is closed, or it is another one and nothing can be kept
abbrev pub auto_pin_refusal : State → ℕ → Bool → User → Option Refusal
auto_pin_refusal s user on u =
    if not (is_opened s user) then Some Locked
    else if differs u.auto on then worn_refusal s
    else None

-- ---- all commands

-- what refuses a command on a user that has to be there
abbrev pub of_user : Option User → (User → Option Refusal) → Option Refusal
of_user None cause = Some NoUser
of_user (Some u) cause = cause u

-- The first cause for which a command changes nothing, with so many slots and at this moment. A
-- wrong text and an expired arming are no such causes: they change the state.
abbrev pub refusal : ℕ → State → Command → ℕ → Option Refusal
refusal slots s (command.Add user escrow) moment = add_refusal slots s user
refusal slots s (command.Drop user) moment =
    of_user (user_of s.vault.users user) (λ u. worn_refusal s)
refusal slots s (command.Attempt user offered) moment =
    of_user (user_of s.vault.users user) (attempt_refusal offered moment)
refusal slots s (command.Change user new) moment =
    of_user (user_of s.vault.users user) (λ u. change_refusal slots s user)
refusal slots s (command.Lock user) moment = of_user (user_of s.vault.users user) (λ u. None)
refusal slots s (command.Status user) moment = of_user (user_of s.vault.users user) (λ u. None)
refusal slots s command.Users moment = None
refusal slots s (command.TokenAdd user bytes) moment =
    of_user (user_of s.vault.users user) (token_add_refusal s user)
refusal slots s (command.Activate user) moment =
    of_user (user_of s.vault.users user) (λ u. locked_refusal s user)
refusal slots s (command.TokenDrop user id) moment =
    of_user (user_of s.vault.users user) (λ u. token_drop_refusal s user id)
refusal slots s (command.TokenState user id) moment =
    of_user (user_of s.vault.users user) (λ u. None)
refusal slots s (command.TokenAttempt user id offered) moment =
    of_user (user_of s.vault.users user) (λ u. bytes_refusal offered (token_of u.tokens id))
refusal slots s (command.EscrowOff user) moment =
    of_user (user_of s.vault.users user) (escrow_off_refusal s)
refusal slots s command.Prepare moment = None
refusal slots s command.Arm moment = arm_refusal s
refusal slots s command.Resume moment = resume_refusal s.vault.arming
refusal slots s (command.AutoPin user on) moment =
    of_user (user_of s.vault.users user) (auto_pin_refusal s user on)
refusal slots s (command.PinLength user) moment = of_user (user_of s.vault.users user) (λ u. None)
