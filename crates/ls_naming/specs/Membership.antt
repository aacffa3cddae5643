-- Tests of what a record names, for the code that answers them.
use Rattle.std.specs.Prelude.{◌==◌, ◌&&◌, ◌||◌, not, ℕ, Bool, if◌then◌else◌, Option, is_some}
use Rattle.std.specs.List.{list_any}
use Rattle.ls_credential.specs.declared.kind.Kind.{Kind}
use Rattle.ls_formats.specs.declared.part.FilePart.{FilePart}
use Rattle.ls_formats.specs.declared.part.FilePart.TheVariants.{SpBlob, Pwd, Secdis, Weaver}
use Rattle.ls_formats.specs.declared.part.FilePart.TheVariants.{Metrics, Handle, E0, P1, Resume}
use Rattle.ls_formats.specs.PartNames.{PartOf}
use Rattle.ls_record.specs.declared.row.UserRow.{UserRow}
use Rattle.ls_arming.specs.declared.arming.Arming.{Arming}
use Rattle.ls_record.specs.Rows.{Rec, has}
use Rattle.ls_naming.specs.Named.{is_armed, has_credential, has_secure}

-- a number for each part
abbrev pub part_number : FilePart → ℕ
part_number SpBlob = 0
part_number Pwd = 1
part_number Secdis = 2
part_number Weaver = 3
part_number Metrics = 4
part_number Handle = 5
part_number E0 = 6
part_number P1 = 7
part_number Resume = 8

abbrev pub same_part : FilePart → FilePart → Bool
same_part p q = part_number p == part_number q

abbrev pub same_name : PartOf → PartOf → Bool
same_name m n = (m.user == n.user) && ((m.id == n.id) && same_part m.part n.part)

-- ---- parts

abbrev pub is_user_part : Option Arming → UserRow → FilePart → Bool
is_user_part armed row part =
    (has_secure row && same_part Handle part)
    || ((row.escrow && (same_part E0 part || same_part P1 part))
    || (is_armed armed row.user && same_part Resume part))

abbrev pub is_credential_part : Bool → Kind → FilePart → Bool
is_credential_part weaver kind part =
    same_part SpBlob part
    || ((has_credential kind && same_part Pwd part)
    || (same_part (if weaver then Weaver else Secdis) part
    || (has_credential kind && same_part Metrics part)))

abbrev pub is_token_part : Bool → FilePart → Bool
is_token_part weaver part =
    same_part SpBlob part || (same_part Secdis part || (weaver && same_part Weaver part))

-- ---- rows

-- the row of a file's user names the part with this id
abbrev pub has_file : Bool → Option Arming → UserRow → ℕ → FilePart → Bool
has_file weaver armed row id part =
    ((0 == id) && is_user_part armed row part)
    || (((row.protector == id) && is_credential_part weaver row.kind part)
    || (has row.tokens id && is_token_part weaver part))

abbrev pub row_names : Bool → Option Arming → UserRow → PartOf → Bool
row_names weaver armed row name =
    (row.user == name.user) && has_file weaver armed row name.id name.part

abbrev pub has_key : UserRow → ℕ → Bool
has_key row alias = (row.protector == alias) || has row.tokens alias

abbrev pub has_enrolled : Bool → UserRow → ℕ → Bool
has_enrolled weaver row id =
    (has_secure row && (row.secure == id))
    || ((not weaver && has_credential row.kind) && (row.protector == id))

-- ---- records

abbrev pub file_is_named : Bool → Rec → PartOf → Bool
file_is_named weaver r name = list_any (λ row. row_names weaver r.armed row name) r.users

abbrev pub key_is_named : Rec → ℕ → Bool
key_is_named r alias =
    list_any (λ row. has_key row alias) r.users || (is_some r.armed && (0 == alias))

abbrev pub enrolled_is_named : Bool → Rec → ℕ → Bool
enrolled_is_named weaver r id = list_any (λ row. has_enrolled weaver row id) r.users
