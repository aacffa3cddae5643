-- Looking for the change that leads from one record to another.
use Rattle.std.specs.Prelude.{◌==◌, ◌&&◌, not, ℕ, Bool, List, find, Option, None, Some}
use Rattle.std.specs.Bool.{beq}
use Rattle.std.specs.List.{list_any}
use Rattle.std.specs.Cmp.Lexicographic.{pointwise}
use Rattle.ls_credential.specs.Codes.{code_of}
use Rattle.ls_record.specs.declared.row.UserRow.{UserRow}
use Rattle.ls_arming.specs.declared.arming.Arming.{Arming}
use Rattle.ls_record.specs.declared.edit.Edit.{Edit}
use Rattle.ls_record.specs.declared.edit.Edit.TheVariants.{PutRow, DropRow, SetArmed, ClearArmed}
use Rattle.ls_record.specs.Rows.{Rec, has_row}

-- two rows are equal
abbrev pub same_flags : UserRow → UserRow → Bool
same_flags x y = ((beq x.escrow y.escrow && (code_of x.kind == code_of y.kind)) && beq x.auto y.auto) && (x.pin == y.pin)

abbrev pub same_numbers : ℕ → ℕ → Bool
same_numbers m n = m == n

abbrev pub same_ids : UserRow → UserRow → Bool
same_ids x y = ((x.user == y.user) && (x.protector == y.protector)) && ((x.secure == y.secure) && pointwise same_numbers x.tokens y.tokens)

abbrev pub same_row : UserRow → UserRow → Bool
same_row x y = same_flags x y && same_ids x y

-- a row is one of these
abbrev pub is_among : List UserRow → UserRow → Bool
is_among rows row = list_any (λ r. same_row r row) rows

-- the first row whose user has none in the next record
abbrev pub a_missing : List UserRow → List UserRow → Option UserRow
a_missing rows next = find (λ r. not (has_row next r.user)) rows

-- the first row of the next record that isn't one of these
abbrev pub a_new : List UserRow → List UserRow → Option UserRow
a_new rows next = find (λ r. not (is_among rows r)) next

abbrev pub arming_edit : Option Arming → Edit
arming_edit None = ClearArmed
arming_edit (Some a) = SetArmed a

abbrev pub put_or : Option UserRow → Edit → Edit
put_or None edit = edit
put_or (Some row) edit = PutRow row

abbrev pub drop_or : Option UserRow → Edit → Edit
drop_or None edit = edit
drop_or (Some row) edit = DropRow row.user

-- the only change that could lead to the next record
abbrev pub candidate : Rec → Rec → Edit
candidate r next = drop_or (a_missing r.users next.users) (put_or (a_new r.users next.users) (arming_edit next.armed))
