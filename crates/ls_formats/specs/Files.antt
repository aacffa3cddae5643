-- The contents of protector files, as formats.
use Rattle.std.specs.Prelude.{ℕ, List, [], ◌∷◌, ◌++◌}
use Rattle.ls_formats.specs.declared.field.Rule.{Rule}
use Rattle.ls_formats.specs.declared.field.Rule.TheVariants.{Any, Between, StoredKind}
use Rattle.ls_formats.specs.declared.field.Field.{Field}
use Rattle.ls_formats.specs.declared.part.FilePart.{FilePart}
use Rattle.ls_formats.specs.declared.part.FilePart.TheVariants.{SpBlob, Pwd, Secdis, Weaver, Metrics, Handle, E0, P1, Resume}
use Rattle.ls_formats.specs.Format.{Format, ended, either}
use Rattle.ls_formats.specs.Rules.{row}

abbrev pub field : ℕ → Rule → Field
field width rule = record { width = width; rule = rule }

-- one byte, and no other
abbrev pub just : ℕ → Field
just b = field 1 (Between b b)

-- the kind, the three powers of the cost, and the salt
abbrev pub pwd_head : List Field
pwd_head = field 1 StoredKind ∷ field 1 (Between 1 14) ∷ field 1 (Between 0 4) ∷ field 1 (Between 0 3) ∷ field 16 Any ∷ []

-- What a file of this part holds. A blob has faults of its own, and no place in this table.
abbrev pub format_of : FilePart → Format
format_of SpBlob = ended
-- the length of the handle, and a handle of so many bytes
format_of Pwd = either (row (pwd_head ++ just 0 ∷ [])) (row (pwd_head ++ just 49 ∷ field 49 Any ∷ []))
-- plain, or sealed: which of the two depends on the board
format_of Secdis = either (row (field 16384 Any ∷ [])) (row (field 16412 Any ∷ []))
-- the version, and the slot
format_of Weaver = row (just 1 ∷ field 4 Any ∷ [])
-- sealed
format_of Metrics = row (field 38 Any ∷ [])
format_of Handle = row (field 49 Any ∷ [])
format_of E0 = row (field 60 Any ∷ [])
format_of P1 = row (field 32 Any ∷ [])
-- the version, and the content
format_of Resume = row (just 1 ∷ field 184 Any ∷ [])

-- a number of bytes of a credential
abbrev pub count : Field
count = field 1 (Between 0 16)

-- what the `metrics` file is when it is opened: a kind, and nine counts
abbrev pub metrics_format : Format
metrics_format = row (field 1 StoredKind ∷ count ∷ count ∷ count ∷ count ∷ count ∷ count ∷ count ∷ count ∷ count ∷ [])
