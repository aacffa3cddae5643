-- The spelling of a record, in its two formats.
use Rattle.std.specs.Prelude.{◌≡◌, ◌⊎◌, ◌==◌, ℕ, Bool, false, if◌then◌else◌, List, [], ◌∷◌, ◌++◌, length, Option, None, Some}
use Rattle.std.specs.List.{flat_map, AllByRecursion}
use Rattle.ls_bytes.specs.Fields.{be32, be64}
use Rattle.ls_credential.specs.Codes.{code_of}
use Rattle.ls_record.specs.declared.row.UserRow.{UserRow}
use Rattle.ls_arming.specs.declared.arming.Arming.{Arming}
use Rattle.ls_record.specs.Rows.{Rec, IsRecord}

-- a flag
abbrev pub flag : Bool → ℕ
flag b = if b then 1 else 0

-- whether the length of a PIN is shown, and that length: only format 02 has the two
abbrev pub shown_bytes : ℕ → Bool → ℕ → List ℕ
shown_bytes format auto pin = if format == 1 then [] else flag auto ∷ pin ∷ []

-- the number of tokens, and the tokens
abbrev pub token_bytes : List ℕ → List ℕ
token_bytes tokens = length tokens ∷ flat_map be64 tokens

-- a row behind its user
abbrev pub row_rest : ℕ → UserRow → List ℕ
row_rest format r =
    flag r.escrow ∷ code_of r.kind ∷ (shown_bytes format r.auto r.pin ++ (be64 r.protector ++ (be64 r.secure ++ token_bytes r.tokens)))

-- a row
abbrev pub row_bytes : ℕ → UserRow → List ℕ
row_bytes format r = be32 r.user ++ row_rest format r

-- the boot, and the users
abbrev pub armed_bytes : Arming → List ℕ
armed_bytes a = be32 a.boot ++ (length a.users ∷ flat_map be32 a.users)

abbrev pub arming_bytes : Option Arming → List ℕ
arming_bytes None = 0 ∷ []
arming_bytes (Some a) = 1 ∷ armed_bytes a

-- a record in format 01 or 02
abbrev pub record_bytes : ℕ → Rec → List ℕ
record_bytes format r =
    format ∷ length r.users ∷ (flat_map (row_bytes format) r.users ++ arming_bytes r.armed)

-- no length of a PIN is shown, and none may be: so format 01 has no field for it
abbrev pub IsPlain : Rec → Type 0
IsPlain r = AllByRecursion (λ row. (row.auto ≡ false) × (row.pin ≡ 0)) r.users

-- the record has a spelling in the format
abbrev pub HasFormat : ℕ → Rec → Type 0
HasFormat format r = ((format ≡ 1) × IsPlain r) ⊎ (format ≡ 2)

-- the bytes are the spelling of a record, in one of the two formats
abbrev pub IsTextOf : List ℕ → Rec → Type 0
IsTextOf bytes r = IsRecord r × ((format : ℕ) × HasFormat format r × (record_bytes format r ≡ bytes))
