-- How many bytes a command draws.
use Rattle.std.specs.Prelude.{ℕ, ◌+◌, ◌*◌, ◌==◌, Bool, false, if◌then◌else◌, length, Option, Some}
use Rattle.std.specs.Prelude.{None}
use Rattle.ls_credential.specs.declared.kind.Kind.{Kind}
use Rattle.ls_credential.specs.declared.kind.Kind.TheVariants.{Empty}
use Rattle.ls_credential.specs.Rules.{KindAndText}
use Rattle.ls_script.specs.declared.command.Command.{Command}
use Rattle.ls_script.specs.declared.command.Command.TheVariants as command
use Rattle.ls_script.specs.declared.reply.Refusal.{Refusal}
use Rattle.ls_vault.specs.declared.state.State.{State}
use Rattle.ls_vault.specs.declared.user.User.{User}
use Rattle.ls_vault.specs.Credentials.{is_first}
use Rattle.ls_vault.specs.Kinds.{is_empty}
use Rattle.ls_vault.specs.Limits.{activated_count}
use Rattle.ls_vault.specs.Refusals.{refusal}
use Rattle.ls_vault.specs.Users.{user_of}

-- a number, a key, and the start of a cipher's counter
abbrev pub number_len : ℕ
number_len = 8

abbrev pub key_len : ℕ
key_len = 32

abbrev pub iv_len : ℕ
iv_len = 12

-- the value of a slot; the bytes of a file whose loss destroys what is sealed with it
abbrev pub value_len : ℕ
value_len = 16

abbrev pub discardable_len : ℕ
discardable_len = 16384

-- For a protector of a credential: its id, a key and two starts. Beside a credential there is a
-- salt and the start of its metrics. With slots there is a value; without them there are
-- discardable bytes, and beside a credential the salt of its handle.
abbrev pub credential_len : ℕ → Kind → ℕ
credential_len slots kind =
    number_len + key_len + 2 * iv_len
    + (if is_empty kind then 0 else 16 + iv_len)
    + (if slots == 0 then discardable_len + (if is_empty kind then 0 else number_len)
    else value_len)

-- For a protector of a token: a key, two starts and discardable bytes; with slots a value and a
-- third start.
abbrev pub token_len : ℕ → ℕ
token_len slots =
    key_len + 2 * iv_len + discardable_len + (if slots == 0 then 0 else value_len + iv_len)

-- a credential replaces none
abbrev pub is_first_of : KindAndText → Option User → Bool
is_first_of new None = false
is_first_of new (Some u) = is_first new u

-- How many bytes a command draws that isn't refused: for a new user two halves of the secret, and
-- with escrow one start; for a first credential a secure id and a salt; and for an arming two keys,
-- and two starts for each user.
abbrev pub effect_len : ℕ → State → Command → ℕ
effect_len slots s (command.Add user escrow) =
    32 + 32 + (if escrow then iv_len else 0) + credential_len slots Empty
effect_len slots s (command.Change user new) =
    (if is_first_of new (user_of s.vault.users user) then number_len + number_len else 0)
    + credential_len slots new.kind
effect_len slots s (command.TokenAdd user bytes) = number_len
effect_len slots s (command.Activate user) = activated_count slots s user * token_len slots
effect_len slots s command.Arm = 2 * key_len + 2 * iv_len * length s.session.captured
effect_len slots s _ = 0

-- a refused command draws nothing
abbrev pub len_unless : Option Refusal → ℕ → ℕ
len_unless None len = len
len_unless (Some why) len = 0

-- how many bytes a command draws at this moment
abbrev pub drawn_len : ℕ → State → Command → ℕ → ℕ
drawn_len slots s command moment =
    len_unless (refusal slots s command moment) (effect_len slots s command)
