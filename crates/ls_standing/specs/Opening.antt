-- What is checked of the files that a record names.
--
-- They are checked in the order in which the record names them: by ascending user, the user's own
-- files before those of the credential, and those of the tokens last. Within a file the first place
-- at fault counts, be it one of the format or one of the checks below. A file that isn't there is
-- checked as an empty one, which has no format.
use Rattle.std.specs.Prelude.{◌==◌, ◌&&◌, ◌||◌, ◌+◌, not, min, nat_lt, nat_le, ℕ, Bool, if◌then◌else◌, List, [], ◌∷◌, ◌++◌, map, length, drop, slice_index, unwrap_or, Option, None, Some}
use Rattle.std.specs.List.{flat_map}
use Rattle.byteorder.specs.Endian.{big_number}
use Rattle.ls_credential.specs.Codes.{code_of}
use Rattle.ls_blob.specs.declared.kind.BlobKind.TheVariants.{Credential, StrongToken}
use Rattle.ls_blob.specs.Kinds.{kind_byte}
use Rattle.ls_formats.specs.declared.part.FilePart.{FilePart}
use Rattle.ls_formats.specs.declared.part.FilePart.TheVariants.{SpBlob, Pwd, Secdis, Weaver, Metrics, Handle, E0, P1, Resume}
use Rattle.ls_formats.specs.PartNames.{PartOf, part_name_text}
use Rattle.ls_record.specs.declared.row.UserRow.{UserRow}
use Rattle.ls_arming.specs.declared.arming.Arming.{Arming}
use Rattle.ls_record.specs.Rows.{Rec, has}
use Rattle.ls_naming.specs.Named.{row_files}
use Rattle.ls_naming.specs.Current.{Foreign}
use Rattle.ls_board.specs.declared.world.World.{World}
use Rattle.ls_board.specs.Effect.{file_at}
use Rattle.ls_sealing.specs.PartFormats.{format_fault}
use Rattle.ls_sealing.specs.Protectors.{has_weaver, slot_number}

-- ---- checks

-- Some bytes from a place on, and whether what stands there is right.
pub record Check : Type 0 where
  pub at : ℕ
  pub size : ℕ
  pub right : Bool

-- a check is made only where its bytes are there
abbrev pub fails : List ℕ → Check → Bool
fails bytes c = nat_le (c.at + c.size) (length bytes) && not c.right

-- the lesser of two places, where there is one
abbrev pub first_of : Option ℕ → Option ℕ → Option ℕ
first_of None second = second
first_of (Some m) None = Some m
first_of (Some m) (Some n) = Some (min m n)

-- the first place at which one of the checks fails
abbrev pub first_failing : List ℕ → List Check → Option ℕ
first_failing bytes [] = None
first_failing bytes (c ∷ checks) =
    first_of (if fails bytes c then Some c.at else None) (first_failing bytes checks)

-- ---- what is checked beside the format

-- What a file is checked against: the number of slots; the slots that earlier files name; the first
-- byte of the blob of the user's credential.
pub record Beside : Type 0 where
  pub slots : ℕ
  pub earlier : List ℕ
  pub version : ℕ

-- the slot is one of the board's, and no earlier file names it
abbrev pub is_new_slot : Beside → ℕ → Bool
is_new_slot b slot = nat_lt slot b.slots && not (has b.earlier slot)

-- with Weaver the discardable bytes are sealed
abbrev pub discardable_length : ℕ → ℕ
discardable_length slots = if nat_lt 0 slots then 16412 else 16384

-- the check that so many bytes at the place are right
abbrev pub check : ℕ → ℕ → Bool → Check
check at size right = record { at = at; size = size; right = right }

-- the number in so many bytes from a place on
abbrev pub number_at : List ℕ → ℕ → ℕ → ℕ
number_at bytes at size = big_number size (drop at bytes)

-- a `pwd` file has a handle of 49 bytes exactly without Weaver
abbrev pub has_handle_length : ℕ → ℕ → Bool
has_handle_length slots size = if nat_lt 0 slots then not (size == 49) else size == 49

-- The kind of a blob is that of its protector, and a token's version is that of the credential. A
-- `pwd` file says the kind of the row, has a handle exactly without Weaver, and its handle has the
-- version 1 and the protector's id. A handle of the user has the version 1 and the secure id.
abbrev pub part_checks : FilePart → Beside → UserRow → ℕ → List ℕ → List Check
part_checks SpBlob b row id bytes =
    check 1 1 (slice_index bytes 1 ==
    kind_byte (if id == row.protector then Credential else StrongToken))
    ∷ check 0 1 ((id == row.protector) || (slice_index bytes 0 == b.version)) ∷ []
part_checks Pwd b row id bytes =
    check 0 1 (slice_index bytes 0 == code_of row.kind)
    ∷ check 20 1 (has_handle_length b.slots (slice_index bytes 20))
    ∷ check 21 1 (slice_index bytes 21 == 1)
    ∷ check 22 8 (number_at bytes 22 8 == id) ∷ []
part_checks Secdis b row id bytes =
    check (min (length bytes) (discardable_length b.slots)) 0
    (length bytes == discardable_length b.slots) ∷ []
part_checks Weaver b row id bytes = check 1 4 (is_new_slot b (number_at bytes 1 4)) ∷ []
part_checks Metrics b row id bytes = []
part_checks Handle b row id bytes =
    check 0 1 (slice_index bytes 0 == 1) ∷ check 1 8 (number_at bytes 1 8 == row.secure) ∷ []
part_checks E0 b row id bytes = []
part_checks P1 b row id bytes = []
part_checks Resume b row id bytes = []

-- the first place at which a file that a row names is at fault
abbrev pub file_fault : Beside → UserRow → PartOf → List ℕ → Option ℕ
file_fault b row name bytes =
    first_of (format_fault name.part bytes)
    (first_failing bytes (part_checks name.part b row name.id bytes))

-- ---- all files

-- the files that a record names, each with the row that names it
abbrev pub files_of_rows : Bool → Option Arming → List UserRow → List (UserRow × PartOf)
files_of_rows weaver armed rows =
    flat_map (λ row. map (λ name. (row, name)) (row_files weaver armed row)) rows

-- what a file holds; one that isn't there holds nothing
abbrev pub content_at : World → PartOf → List ℕ
content_at w name = unwrap_or (file_at w (part_name_text name)) []

-- the list of a number that is there
abbrev pub one_or_none : Option ℕ → List ℕ
one_or_none None = []
one_or_none (Some n) = n ∷ []

-- the slot that a file of this part names
abbrev pub slot_in : FilePart → List ℕ → List ℕ
slot_in Weaver bytes = one_or_none (slot_number bytes)
slot_in _ bytes = []

-- the first byte of the blob of the row's credential
abbrev pub version_in : World → UserRow → ℕ
version_in w row =
    slice_index (content_at w (record { user = row.user; id = row.protector; part = SpBlob })) 0

-- what a file of the row is checked against, where these slots are named before
abbrev pub beside : World → List ℕ → UserRow → Beside
beside w earlier row =
    record { slots = length w.slots; earlier = earlier; version = version_in w row }

-- this place in the file, or else a later fault
abbrev pub foreign_or : PartOf → Option ℕ → Option Foreign → Option Foreign
foreign_or name None later = later
foreign_or name (Some at) later = Some (record { name = part_name_text name; at = at })

-- The first file at fault, and the place, where these slots are named before.
abbrev pub first_foreign_of : World → List ℕ → List (UserRow × PartOf) → Option Foreign
first_foreign_of w earlier [] = None
first_foreign_of w earlier (file ∷ files) =
    let bytes = content_at w file.1 in
    foreign_or file.1 (file_fault (beside w earlier file.0) file.0 file.1 bytes)
    (first_foreign_of w (earlier ++ slot_in file.1.part bytes) files)

-- The first file at fault among those that the record names, and the place.
abbrev pub first_foreign : World → Rec → Option Foreign
first_foreign w r = first_foreign_of w [] (files_of_rows (has_weaver w) r.armed r.users)
