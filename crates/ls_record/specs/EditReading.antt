-- Reading a change of a record from left to right, up to its first fault.
use Rattle.std.specs.Prelude.{◌==◌, ◌&&◌, nat_le, ℕ, if◌then◌else◌, List, Result, Ok, Err}
use Rattle.ls_record.specs.declared.row.UserRow.{UserRow}
use Rattle.ls_record.specs.declared.edit.Edit.{Edit}
use Rattle.ls_record.specs.declared.edit.Edit.TheVariants.{PutRow, DropRow, SetArmed, ClearArmed}
use Rattle.ls_record.specs.declared.fault.RecordFault.{RecordFault}
use Rattle.ls_record.specs.Rows.{Rec, has_row}
use Rattle.ls_record.specs.Edits.{has_room, changed}
use Rattle.ls_record.specs.Reading.{Reads, ◌>>=◌, done, number, byte, any, row_at, armed_at, alone, front_of}

-- a user for whom there is room, and its row
unfoldable pub put_at : ℕ → List UserRow → Reads Edit
put_at format rows = do
  user ← number 4 (has_room rows) any
  row ← row_at format rows user
  done (PutRow row)

-- a user that has a row
abbrev pub drop_at : List UserRow → Reads Edit
drop_at rows = do
  user ← number 4 any (has_row rows)
  done (DropRow user)

abbrev pub set_at : List UserRow → Reads Edit
set_at rows = do
  a ← armed_at rows
  done (SetArmed a)

-- what stands behind the number of a kind of change
abbrev pub change_at : ℕ → ℕ → List UserRow → Reads Edit
change_at kind format rows =
    if kind == 1 then put_at format rows
    else if kind == 2 then drop_at rows
    else if kind == 3 then set_at rows
    else done ClearArmed

unfoldable pub edit_at : ℕ → List UserRow → Reads Edit
edit_at format rows = do
  kind ← byte (λ n. nat_le 1 n && nat_le n 4)
  change_at kind format rows

-- the change, of a record with these rows, that all the bytes are, or their first fault
abbrev pub whole_edit : ℕ → List UserRow → List ℕ → Result Edit RecordFault
whole_edit format rows bytes = alone (edit_at format rows (front_of bytes))

-- the record with the change, or the change's fault
abbrev pub change_by : Rec → Result Edit RecordFault → Result Rec RecordFault
change_by r (Ok e) = Ok (changed r e)
change_by r (Err f) = Err f

-- the record with the change that all the bytes are, or their first fault
abbrev pub edited_of : ℕ → Rec → List ℕ → Result Rec RecordFault
edited_of format r bytes = change_by r (whole_edit format r.users bytes)
