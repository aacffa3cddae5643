-- What refuses a command by the record, the session and the words alone.
use Rattle.std.specs.Prelude.{◌≡◌, ◌==◌, ◌+◌, ◌&&◌, ◌||◌, not, nat_lt, nat_le, ℕ, Bool, if◌then◌else◌, List, length, sum_by, find, filter, is_some, Option, None, Some, Result, Ok}
use Rattle.std.specs.List.{list_any}
use Rattle.ls_board.specs.Acts.{Sight}
use Rattle.ls_arming.specs.Numbers.{contains}
use Rattle.ls_naming.specs.Current.{last_sequence}
use Rattle.ls_record.specs.declared.row.UserRow.{UserRow}
use Rattle.ls_record.specs.Rows.{Rec, has}
use Rattle.ls_script.specs.declared.command.Command.{Command}
use Rattle.ls_script.specs.declared.command.Command.TheVariants as command
use Rattle.ls_script.specs.declared.reply.Refusal.{Refusal}
use Rattle.ls_script.specs.declared.reply.Refusal.TheVariants.{NoUser, UserExists, UserLimit, WrongKind, NoEscrow, NoToken, TokenLimit, NoSlot, Locked, NotPrepared, Worn}
use Rattle.ls_script.specs.declared.reply.Reply.{Reply}
use Rattle.ls_script.specs.declared.reply.Reply.TheVariants.{No}
use Rattle.ls_vault.specs.Kinds.{same_kind}
use Rattle.ls_vault.specs.Limits.{most_users, most_tokens}
use Rattle.ls_vault.specs.Refusals.{differs}
use Rattle.ls_turn.specs.declared.session.Pending.{Pending}
use Rattle.ls_turn.specs.declared.session.Session.{Session}
use Rattle.ls_turn.specs.declared.stop.Stop.{Stop}
use Rattle.ls_turn.specs.Agreeing.{users_in}

-- ---- what is looked at

-- the row of a user
abbrev pub row_of : Rec → ℕ → Option UserRow
row_of r user = find (λ row. row.user == user) r.users

abbrev pub is_open : Session → ℕ → Bool
is_open x user = contains (users_in x.opened.items) user

-- how many slots the rows use: one for each user, and one for each active token
abbrev pub used_by : List UserRow → ℕ
used_by rows = length rows + sum_by (λ row. length row.tokens) rows

-- there are slots, and none is free
abbrev pub has_no_slot : Session → Bool
has_no_slot x = nat_lt 0 x.slots && nat_le x.slots (used_by x.settings.settled.rec.users)

abbrev pub pending_for : Session → ℕ → List Pending
pending_for x user = filter (λ p. p.user == user) x.pending.items

abbrev pub is_waiting : Session → ℕ → ℕ → Bool
is_waiting x user id = list_any (λ p. p.user == user && p.id == id) x.pending.items

-- ---- the refusals

-- nothing can be kept any more
abbrev pub unless_kept : Session → Option Refusal
unless_kept x = if x.settings.settled.sequence == last_sequence then Some Worn else None

-- the user is closed
abbrev pub unless_open : Session → ℕ → Option Refusal → Option Refusal
unless_open x user rest = if is_open x user then rest else Some Locked

-- there is no such user
abbrev pub of_row : Option UserRow → (UserRow → Option Refusal) → Option Refusal
of_row None cause = Some NoUser
of_row (Some row) cause = cause row

abbrev pub of_user : Session → ℕ → (UserRow → Option Refusal) → Option Refusal
of_user x user cause = of_row (row_of x.settings.settled.rec user) cause

abbrev pub add_refusal : Session → ℕ → Option Refusal
add_refusal x user =
    let rows = x.settings.settled.rec.users in
    if is_some (row_of x.settings.settled.rec user) then Some UserExists
    else if nat_le most_users (length rows) then Some UserLimit
    else if has_no_slot x then Some NoSlot
    else unless_kept x

abbrev pub token_add_refusal : Session → UserRow → Option Refusal
token_add_refusal x row =
    if not row.escrow then Some NoEscrow
    else if nat_le most_tokens (length row.tokens + length (pending_for x row.user)) then Some TokenLimit
    else None

abbrev pub token_drop_refusal : Session → ℕ → UserRow → Option Refusal
token_drop_refusal x id row =
    if not (is_waiting x row.user id || has row.tokens id) then Some NoToken
    else if has row.tokens id then unless_kept x
    else None

abbrev pub arm_refusal : Session → Option Refusal
arm_refusal x =
    if not x.prepared then Some NotPrepared
    else if length x.captured.items == 0 then Some Locked
    else unless_kept x

-- the first cause, tested in the order of the machine
abbrev pub own_refusal : Session → Command → Option Refusal
own_refusal x (command.Add user escrow) = add_refusal x user
own_refusal x (command.Drop user) = of_user x user (λ row. unless_kept x)
own_refusal x (command.Attempt user offered) =
    of_user x user (λ row. if same_kind offered.kind row.kind then None else Some (WrongKind row.kind))
own_refusal x (command.Change user new) =
    of_user x user (λ row. unless_open x user (if has_no_slot x then Some NoSlot else unless_kept x))
own_refusal x (command.Lock user) = of_user x user (λ row. None)
own_refusal x (command.Status user) = of_user x user (λ row. None)
own_refusal x command.Users = None
own_refusal x (command.TokenAdd user bytes) = of_user x user (token_add_refusal x)
own_refusal x (command.Activate user) = of_user x user (λ row. unless_open x user None)
own_refusal x (command.TokenDrop user id) = of_user x user (token_drop_refusal x id)
own_refusal x (command.TokenState user id) = of_user x user (λ row. None)
own_refusal x (command.TokenAttempt user id offered) =
    of_user x user (λ row. if has row.tokens id then None else Some NoToken)
own_refusal x (command.EscrowOff user) =
    of_user x user (λ row. if row.escrow then unless_kept x else Some NoEscrow)
own_refusal x command.Prepare = None
own_refusal x command.Arm = arm_refusal x
own_refusal x command.Resume = None
own_refusal x (command.AutoPin user on) =
    of_user x user (λ row. unless_open x user (if differs row.auto on then unless_kept x else None))
own_refusal x (command.PinLength user) = of_user x user (λ row. None)

-- It comes by the record, the session and the words alone.
abbrev pub IsOwn : Refusal → Type 0
IsOwn NoUser = Unit {0}
IsOwn UserExists = Unit {0}
IsOwn UserLimit = Unit {0}
IsOwn (WrongKind kind) = Unit {0}
IsOwn NoEscrow = Unit {0}
IsOwn NoToken = Unit {0}
IsOwn TokenLimit = Unit {0}
IsOwn NoSlot = Unit {0}
IsOwn Locked = Unit {0}
IsOwn NotPrepared = Unit {0}
IsOwn Worn = Unit {0}
IsOwn _ = ⊥

-- On every board: such a refusal comes exactly by its cause, before any call and without memory, and
-- nothing is another then.
pub record Refuses (own : Option Refusal) (old : Sight) (x : Session) (result : Result Reply Stop) (y : Session)
    (new : Sight) : Type 0 where
  pub refused : (why : Refusal) → own ≡ Some why → (result ≡ Ok (No why)) × (y ≡ x) × (new ≡ old)
  pub only : (why : Refusal) → result ≡ Ok (No why) → IsOwn why → own ≡ Some why
