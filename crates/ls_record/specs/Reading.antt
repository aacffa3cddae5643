-- Reading a record from left to right, up to its first fault.
use Rattle.std.specs.Prelude.{◌==◌, ◌&&◌, ◌+◌, not, nat_le, nat_lt, ℕ, zero, suc, Bool, true, false, if◌then◌else◌, List, [], ◌∷◌, ◌++◌, length, drop, unwrap_or, Option, None, Some, Result, Ok, Err, is_some}
use Rattle.byteorder.specs.Endian.{big_number}
use Rattle.ls_bytes.specs.Reading.{Reading}
use Rattle.ls_credential.specs.declared.kind.Kind.{Kind}
use Rattle.ls_credential.specs.declared.kind.Kind.TheVariants.{Empty}
use Rattle.ls_credential.specs.Codes.{kind_of}
use Rattle.ls_record.specs.declared.row.UserRow.{UserRow}
use Rattle.ls_arming.specs.declared.arming.Arming.{Arming}
use Rattle.ls_record.specs.declared.fields.Flags.{Flags}
use Rattle.ls_record.specs.declared.fault.RecordFault.{RecordFault}
use Rattle.ls_record.specs.declared.fault.RecordFault.TheVariants.{Short, Order, Limit, Extra}
use Rattle.ls_record.specs.Rows.{Rec, is_odd, is_protector_id, is_secure_id, is_shown_length, is_token_count, is_new_protector, is_new_secure, is_new_token, is_last_user, is_next_armed}

-- ---- readers

-- a reader takes a value from the front of the bytes that are left, or tells the first fault
abbrev pub Reads : Type 0 → Type 0
Reads A = Reading → Result (A × Reading) RecordFault

abbrev pub go_on : {A B : Type 0} → Result (A × Reading) RecordFault → (A → Reads B) → Result (B × Reading) RecordFault
go_on (Ok x) next = next x.0 x.1
go_on (Err e) next = Err e

infixl 10 ◌>>=◌
abbrev pub ◌>>=◌ : {A B : Type 0} → Reads A → (A → Reads B) → Reads B
(p >>= next) r = go_on (p r) next

abbrev pub done : {A : Type 0} → A → Reads A
done v r = Ok (v, r)

-- so many values behind those before, each read in sight of those
unfoldable pub repeat : {A : Type 0} → (List A → Reads A) → List A → ℕ → Reads (List A)
repeat item before zero = done before
repeat item before (suc n) = do
  x ← item before
  repeat item (before ++ x ∷ []) n

-- where the bytes end
abbrev pub end_of : Reading → ℕ
end_of r = r.at + length r.left

-- behind the field of the next bytes
abbrev pub behind : ℕ → Reading → Reading
behind width r = record { left = drop width r.left; at = r.at + width }

-- A number of so many bytes. Where it doesn't fit the fault is at the end, and else at the field;
-- its value is tested before its order.
unfoldable pub number : ℕ → (ℕ → Bool) → (ℕ → Bool) → Reads ℕ
number width limit order r =
    if nat_lt (length r.left) width then Err (Short (end_of r))
    else if not (limit (big_number width r.left)) then Err (Limit r.at)
    else if not (order (big_number width r.left)) then Err (Order r.at)
    else Ok (big_number width r.left, behind width r)

abbrev pub any : ℕ → Bool
any n = true

-- a field of one byte
abbrev pub byte : (ℕ → Bool) → Reads ℕ
byte limit = number 1 limit any

-- ---- fields

abbrev pub flag_at : Reads Bool
flag_at = do
  b ← byte (λ b. nat_le 0 b && nat_le b 1)
  done (b == 1)

abbrev pub kind_at : Reads Kind
kind_at = do
  b ← byte (λ b. is_some (kind_of b))
  done (unwrap_or (kind_of b) Empty)

-- whether the length of a PIN is shown
abbrev pub auto_at : ℕ → Reads Bool
auto_at format = if format == 1 then done false else flag_at

-- and that length
abbrev pub pin_at : ℕ → Kind → Bool → Reads ℕ
pin_at format kind auto = if format == 1 then done 0 else byte (is_shown_length kind auto)

-- no row of another user has this protector
abbrev pub protector_at : List UserRow → ℕ → Reads ℕ
protector_at rows user = number 8 is_protector_id (is_new_protector rows user)

-- none has this secure id, if it isn't 0
abbrev pub secure_at : Kind → List UserRow → ℕ → Reads ℕ
secure_at kind rows user = number 8 (is_secure_id kind) (is_new_secure rows user)

-- none has this token, and none of those before it in its own row is it
abbrev pub token_at : List UserRow → ℕ → List ℕ → Reads ℕ
token_at rows user before = number 8 is_odd (is_new_token rows user before)

-- the number of tokens, and the tokens
unfoldable pub token_list_at : List UserRow → ℕ → Bool → Reads (List ℕ)
token_list_at rows user escrow = do
  n ← byte (is_token_count escrow)
  repeat (token_at rows user) [] n

-- ---- rows

-- the flags and the kind in a row
unfoldable pub flags_at : ℕ → Reads Flags
flags_at format = do
  escrow ← flag_at
  kind ← kind_at
  auto ← auto_at format
  pin ← pin_at format kind auto
  done (record { escrow = escrow; kind = kind; auto = auto; pin = pin })

-- a row of this user, beside the rows of others
unfoldable pub row_at : ℕ → List UserRow → ℕ → Reads UserRow
row_at format rows user = do
  flags ← flags_at format
  protector ← protector_at rows user
  secure ← secure_at flags.kind rows user
  tokens ← token_list_at rows user flags.escrow
  done (record { user = user; escrow = flags.escrow; kind = flags.kind; auto = flags.auto; pin = flags.pin; protector = protector; secure = secure; tokens = tokens })

-- a user above those of the rows before
abbrev pub next_user_at : List UserRow → Reads ℕ
next_user_at before = number 4 any (is_last_user before)

-- a user, and its row beside the rows before
unfoldable pub next_row_at : ℕ → List UserRow → Reads UserRow
next_row_at format before = do
  user ← next_user_at before
  row_at format before user

-- ---- the arming

-- a user that has a row, above those before
abbrev pub armed_user_at : List UserRow → List ℕ → Reads ℕ
armed_user_at rows before =
    number 4 any (is_next_armed rows before)

-- the boot, the number of users, and the users
unfoldable pub armed_at : List UserRow → Reads Arming
armed_at rows = do
  boot ← number 4 any any
  n ← byte (λ n. nat_le 1 n && nat_le n 16)
  users ← repeat (armed_user_at rows) [] n
  done (record { boot = boot; users = users })

abbrev pub some_armed : List UserRow → Reads (Option Arming)
some_armed rows = do
  a ← armed_at rows
  done (Some a)

abbrev pub arming_at : List UserRow → Reads (Option Arming)
arming_at rows = do
  b ← flag_at
  if b then some_armed rows else done None

-- ---- the record

unfoldable pub body_at : Reads Rec
body_at = do
  format ← byte (λ b. nat_le 1 b && nat_le b 2)
  n ← byte (λ n. nat_le 0 n && nat_le n 16)
  users ← repeat (next_row_at format) [] n
  armed ← arming_at users
  done (record { users = users; armed = armed })

-- nothing stands behind it
abbrev pub alone : {A : Type 0} → Result (A × Reading) RecordFault → Result A RecordFault
alone (Ok x) = if length x.1.left == 0 then Ok x.0 else Err (Extra x.1.at)
alone (Err e) = Err e

-- the first of these bytes
abbrev pub front_of : List ℕ → Reading
front_of bytes = record { left = bytes; at = 0 }

-- the record that all the bytes are, or their first fault
abbrev pub record_of : List ℕ → Result Rec RecordFault
record_of bytes = alone (body_at (front_of bytes))
