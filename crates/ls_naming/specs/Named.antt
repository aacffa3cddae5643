-- What a record names: files, slots, keys and Gatekeeper records.
use Rattle.std.specs.Prelude.{◌≡◌, ◌<◌, ◌^◌, ◌==◌, ◌&&◌, not, ℕ, Bool, true, false}
use Rattle.std.specs.Prelude.{if◌then◌else◌, List, [], ◌∷◌, ◌++◌, map, Option, None, Some, is_some}
use Rattle.std.specs.List.{flat_map, Contains}
use Rattle.ls_credential.specs.declared.kind.Kind.{Kind}
use Rattle.ls_credential.specs.declared.kind.Kind.TheVariants.{Empty, Pattern, Pin, Password}
use Rattle.ls_formats.specs.declared.part.FilePart.{FilePart}
use Rattle.ls_formats.specs.declared.part.FilePart.TheVariants.{SpBlob, Pwd, Secdis, Weaver}
use Rattle.ls_formats.specs.declared.part.FilePart.TheVariants.{Metrics, Handle, E0, P1, Resume}
use Rattle.ls_formats.specs.PartNames.{PartOf, part_name_text}
use Rattle.ls_formats.specs.Contents.{slot_bytes}
use Rattle.ls_record.specs.declared.row.UserRow.{UserRow}
use Rattle.ls_arming.specs.declared.arming.Arming.{Arming}
use Rattle.ls_record.specs.Rows.{Rec, has}

-- these where the test holds, else none
abbrev pub only_if : {X : Type 0} → Bool → List X → List X
only_if b xs = if b then xs else []

-- the user is armed
abbrev pub is_armed : Option Arming → ℕ → Bool
is_armed None user = false
is_armed (Some a) user = has a.users user

-- a user of this kind has a credential
abbrev pub has_credential : Kind → Bool
has_credential Empty = false
has_credential Pattern = true
has_credential Pin = true
has_credential Password = true

-- a user has a secure id
abbrev pub has_secure : UserRow → Bool
has_secure row = not (row.secure == 0)

-- ---- files

-- the parts of a user
abbrev pub user_parts : Option Arming → UserRow → List FilePart
user_parts armed row =
    only_if (has_secure row) (Handle ∷ [])
    ++ (only_if row.escrow (E0 ∷ P1 ∷ []) ++ only_if (is_armed armed row.user) (Resume ∷ []))

-- the parts of a credential's protector: a board with Weaver keeps a slot, and one without it a
-- random file
abbrev pub credential_parts : Bool → Kind → List FilePart
credential_parts weaver kind =
    SpBlob ∷ (only_if (has_credential kind) (Pwd ∷ [])
    ++ ((if weaver then Weaver else Secdis) ∷ only_if (has_credential kind) (Metrics ∷ [])))

-- the parts of a token's protector
abbrev pub token_parts : Bool → List FilePart
token_parts weaver = SpBlob ∷ Secdis ∷ only_if weaver (Weaver ∷ [])

-- these parts of a protector, or of a user at id 0
abbrev pub parts_of : ℕ → ℕ → List FilePart → List PartOf
parts_of user id parts = map (λ p. record { user = user; id = id; part = p }) parts

-- the files of a user's tokens
abbrev pub token_files : Bool → UserRow → List PartOf
token_files weaver row = flat_map (λ t. parts_of row.user t (token_parts weaver)) row.tokens

-- the files that a row names: those of the user, of the credential, and of the tokens in order
abbrev pub row_files : Bool → Option Arming → UserRow → List PartOf
row_files weaver armed row =
    parts_of row.user 0 (user_parts armed row)
    ++ (parts_of row.user row.protector (credential_parts weaver row.kind)
    ++ token_files weaver row)

-- The files that a record names, by ascending user: the order in which they are checked.
abbrev pub named_files : Bool → Rec → List PartOf
named_files weaver r = flat_map (row_files weaver r.armed) r.users

abbrev pub NamesFile : Bool → Rec → PartOf → Type 0
NamesFile weaver r name = Contains (named_files weaver r) name

-- ---- slots

-- what the file of each name holds, or that there is none
abbrev pub Files : Type 0
Files = List ℕ → Option (List ℕ)

-- A record names a slot by a `weaver` file that it names.
pub record NamesSlot (weaver : Bool) (r : Rec) (files : Files) (slot : ℕ) : Type 0 where
  pub name : PartOf
  pub named : NamesFile weaver r name
  pub part : name.part ≡ Weaver
  pub small : slot < 2 ^ 32
  pub holds : files (part_name_text name) ≡ Some (slot_bytes (record { slot = slot }))

-- ---- keys and Gatekeeper records

-- the keys of a row have the ids of its protectors
abbrev pub row_keys : UserRow → List ℕ
row_keys row = row.protector ∷ row.tokens

-- The aliases of the keys that a record names. An arming has the key of alias 0.
abbrev pub named_keys : Rec → List ℕ
named_keys r = flat_map row_keys r.users ++ only_if (is_some r.armed) (0 ∷ [])

abbrev pub NamesKey : Rec → ℕ → Type 0
NamesKey r alias = Contains (named_keys r) alias

-- a secure id, and without Weaver the id of a credential's protector
abbrev pub row_enrolled : Bool → UserRow → List ℕ
row_enrolled weaver row =
    only_if (has_secure row) (row.secure ∷ [])
    ++ only_if (not weaver && has_credential row.kind) (row.protector ∷ [])

-- the ids of the Gatekeeper records that a record names
abbrev pub named_enrolled : Bool → Rec → List ℕ
named_enrolled weaver r = flat_map (row_enrolled weaver) r.users

abbrev pub NamesEnrolled : Bool → Rec → ℕ → Type 0
NamesEnrolled weaver r id = Contains (named_enrolled weaver r) id
