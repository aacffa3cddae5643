-- Changes of a record: what each does, when it may be made, and its one spelling.
use Rattle.std.specs.Prelude.{◌≡◌, ◌≢◌, ◌||◌, nat_lt, ℕ, Bool, true, false, ⊤, List, [], ◌∷◌, ◌++◌, length, filter, None, Some}
use Rattle.std.specs.List.{AllByRecursion}
use Rattle.ls_bytes.specs.Fields.{be32}
use Rattle.ls_record.specs.declared.row.UserRow.{UserRow}
use Rattle.ls_arming.specs.Disarming.{disarmed}
use Rattle.ls_record.specs.declared.edit.Edit.{Edit}
use Rattle.ls_record.specs.declared.edit.Edit.TheVariants.{PutRow, DropRow, SetArmed, ClearArmed}
use Rattle.ls_record.specs.Rows.{Rec, rec, IsRow, AreApart, IsArming, has_row}
use Rattle.ls_record.specs.Spelling.{row_bytes, armed_bytes}

-- the rows of the users below one, and of those above it
abbrev pub below : List UserRow → ℕ → List UserRow
below rows user = filter (λ r. nat_lt r.user user) rows

abbrev pub above : List UserRow → ℕ → List UserRow
above rows user = filter (λ r. nat_lt user r.user) rows

-- the record with the change
abbrev pub changed : Rec → Edit → Rec
changed r (PutRow row) = rec (below r.users row.user ++ row ∷ above r.users row.user) r.armed
changed r (DropRow user) = rec (below r.users user ++ above r.users user) (disarmed r.armed user)
changed r (SetArmed a) = rec r.users (Some a)
changed r ClearArmed = rec r.users None

-- there is room for a row of the user
abbrev pub has_room : List UserRow → ℕ → Bool
has_room rows user = has_row rows user || nat_lt (length rows) 16

-- The change may be made: a row keeps its rules and repeats nothing of the rows of other users; a
-- user that is dropped or armed has a row.
abbrev pub MayChange : Rec → Edit → Type 0
MayChange r (PutRow row) =
    IsRow row × (has_room r.users row.user ≡ true) × AllByRecursion (λ s. s.user ≢ row.user → AreApart s row) r.users
MayChange r (DropRow user) = has_row r.users user ≡ true
MayChange r (SetArmed a) = IsArming r.users a
MayChange r ClearArmed = ⊤

-- format 01 doesn't say whether the length of a PIN is shown
abbrev pub FitsFormat : ℕ → Edit → Type 0
FitsFormat format (PutRow row) = format ≡ 1 → (row.auto ≡ false) × (row.pin ≡ 0)
FitsFormat format (DropRow user) = ⊤
FitsFormat format (SetArmed a) = ⊤
FitsFormat format ClearArmed = ⊤

-- a number for the kind of change, and what it changes
abbrev pub edit_bytes : ℕ → Edit → List ℕ
edit_bytes format (PutRow row) = 1 ∷ row_bytes format row
edit_bytes format (DropRow user) = 2 ∷ be32 user
edit_bytes format (SetArmed a) = 3 ∷ armed_bytes a
edit_bytes format ClearArmed = 4 ∷ []

-- the bytes are the spelling, in the format, of a change that may be made
pub record IsEditText (format : ℕ) (r : Rec) (bytes : List ℕ) (e : Edit) : Type 0 where
  pub may : MayChange r e
  pub fits : FitsFormat format e
  pub is : edit_bytes format e ≡ bytes

-- the change may be made, and leads to another record
pub record LeadsTo (r : Rec) (e : Edit) (next : Rec) : Type 0 where
  pub may : MayChange r e
  pub to : changed r e ≡ next
  pub other : next ≢ r
