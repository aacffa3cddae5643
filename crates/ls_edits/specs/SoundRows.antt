-- What it takes that a row may be put into the record of a world.
use Rattle.std.specs.Prelude.{◌≡◌, ◌≢◌, ◌⊎◌, ◌<◌, ◌^◌, ◌==◌, ℕ, true, List, map, Option, Some, None}
use Rattle.std.specs.List.{AllZip, Contains}
use Rattle.std.specs.Option.{option_and_then}
use Rattle.ls_board.specs.declared.world.World.{World}
use Rattle.ls_board.specs.Effect.{file_at, touch_at}
use Rattle.ls_formats.specs.Contents.{slot_bytes}
use Rattle.ls_formats.specs.declared.part.FilePart.{FilePart}
use Rattle.ls_formats.specs.declared.part.FilePart.TheVariants.{SpBlob, Pwd, Weaver, Handle, E0, P1}
use Rattle.ls_formats.specs.PartNames.{PartOf, part_name_text}
use Rattle.ls_naming.specs.Named.{user_parts, row_files, NamesFile, NamesSlot}
use Rattle.ls_record.specs.declared.edit.Edit.TheVariants.{PutRow}
use Rattle.ls_arming.specs.declared.arming.Arming.{Arming}
use Rattle.ls_record.specs.declared.row.UserRow.{UserRow}
use Rattle.ls_record.specs.Edits.{MayChange}
use Rattle.ls_record.specs.Rows.{Rec}
use Rattle.ls_sealing.specs.Protectors.{Protector, has_weaver, has_part, held, held_number}
use Rattle.ls_sealing.specs.Seals.{SealsToken}
use Rattle.ls_secret.specs.Escrow.{opened_e0}
use Rattle.ls_standing.specs.Named.{token_of, held_of_user}
use Rattle.ls_standing.specs.NamedProtectors.{row_protectors, NamesProtector}
use Rattle.ls_standing.specs.Opening.{version_in}
use Rattle.ls_standing.specs.Sound.{IsSoundFile}
use Rattle.ls_vault.specs.declared.token.Token.{Token}
use Rattle.ls_vault.specs.declared.user.User.{User}

-- ---- files and slots

-- the row names this file, and it is the `weaver` file of the slot
pub record NamesSlotBy (w : World) (r : Rec) (row : UserRow) (name : PartOf) (slot : ℕ) : Type 0 where
  pub named : Contains (row_files (has_weaver w) r.armed row) name
  pub part : name.part ≡ Weaver
  pub small : slot < 2 ^ 32
  pub holds : file_at w (part_name_text name) ≡ Some (slot_bytes (record { slot = slot }))

-- The row may be put into the record. Each file that it names is whole and passes its checks. A
-- slot that it names is named by one of its files, and that one is the record's already, or the
-- slot is none that the record names.
pub record IsSoundRow (w : World) (r : Rec) (row : UserRow) : Type 0 where
  pub may : MayChange r (PutRow row)
  pub files : (name : PartOf) → Contains (row_files (has_weaver w) r.armed row) name
      → IsSoundFile w row name
  pub apart : (name : PartOf) (slot : ℕ) → NamesSlotBy w r row name slot
      → NamesFile (has_weaver w) r name ⊎ ¬ (NamesSlot (has_weaver w) r (file_at w) slot)
  pub once : (name other : PartOf) (slot : ℕ) → NamesSlotBy w r row name slot
      → NamesSlotBy w r row other slot → name ≡ other

-- none of the row's files is touched
abbrev pub RowIsUntouched : World → Rec → UserRow → Type 0
RowIsUntouched w r row =
    (name : PartOf) → Contains (row_files (has_weaver w) r.armed row) name
    → touch_at w (part_name_text name) ≡ None

-- The file is checked for the same in both rows: a `pwd` file for the kind, a handle for the secure
-- id, and a blob for whether it is the credential's, and else for the version of the credential's.
pub record IsCheckedAlike (w : World) (old row : UserRow) (name : PartOf) : Type 0 where
  pub kind : name.part ≡ Pwd → row.kind ≡ old.kind
  pub secure : name.part ≡ Handle → row.secure ≡ old.secure
  pub purpose : name.part ≡ SpBlob → (name.id == row.protector) ≡ (name.id == old.protector)
  pub version : name.part ≡ SpBlob → name.id ≢ row.protector → version_in w row ≡ version_in w old

-- ---- protectors

-- the slot of the protector, where it has one, is none that the record names
abbrev pub HasNewSlot : World → Rec → Protector → Type 0
HasNewSlot w r p =
    (slot : ℕ) → held_number w p ≡ Some slot → ¬ (NamesSlot (has_weaver w) r (file_at w) slot)

-- each file of the user itself passes its checks
abbrev pub HasSoundUser : World → Rec → UserRow → Type 0
HasSoundUser w r row =
    (part : FilePart) → Contains (user_parts r.armed row) part
    → IsSoundFile w row (record { user = row.user; id = 0; part = part })

-- each file of the protector passes its checks
abbrev pub IsSoundProtector : World → UserRow → Protector → Type 0
IsSoundProtector w row p =
    (part : FilePart) → has_part (has_weaver w) p.purpose part ≡ true
    → IsSoundFile w row (record { user = p.user; id = p.id; part = part })

-- Each file of the user, and of each protector that the row names, passes its checks. A protector
-- is one that the record names, or has a slot that it doesn't name, which no other protector of the
-- row has.
pub record HasSoundProtectors (w : World) (r : Rec) (row : UserRow) : Type 0 where
  pub user : HasSoundUser w r row
  pub files : (p : Protector) → Contains (row_protectors row) p → IsSoundProtector w row p
  pub slots : (p : Protector) → Contains (row_protectors row) p
      → NamesProtector r p ⊎ HasNewSlot w r p
  pub once : (p q : Protector) (slot : ℕ) → Contains (row_protectors row) p
      → Contains (row_protectors row) q → held_number w p ≡ Some slot
      → held_number w q ≡ Some slot → ¬ (NamesSlot (has_weaver w) r (file_at w) slot)
      → p.id ≡ q.id

-- The token is one of a row of the record for the same user, whose credential's blob says the same
-- version.
pub record IsTokenOf (w : World) (r : Rec) (row : UserRow) (id : ℕ) : Type 0 where
  pub old : UserRow
  pub there : Contains r.users old
  pub user : row.user ≡ old.user
  pub token : Contains old.tokens id
  pub version : version_in w row ≡ version_in w old

-- The token is one of the old row, or a new one: its files pass their checks, and its slot is none
-- that the record names.
abbrev pub IsOldOrNewToken : World → Rec → UserRow → UserRow → ℕ → Type 0
IsOldOrNewToken w r old row id =
    Contains old.tokens id
    ⊎ (IsSoundProtector w row (token_of row id) × HasNewSlot w r (token_of row id))

-- no two new tokens of the row have one slot
abbrev pub HaveOwnSlots : World → Rec → UserRow → Type 0
HaveOwnSlots w r row =
    (one other slot : ℕ) → Contains row.tokens one → Contains row.tokens other
    → held_number w (token_of row one) ≡ Some slot
    → held_number w (token_of row other) ≡ Some slot
    → ¬ (NamesSlot (has_weaver w) r (file_at w) slot) → one ≡ other

-- ---- tokens of a user

-- The protectors of these tokens, on the row's user, seal the half of the secret to which the `e0`
-- file of the user opens.
abbrev pub SealTheHalf : World → Option Arming → UserRow → User → List Token → Type 0
SealTheHalf w armed row u more =
    (p0 : List ℕ)
    → option_and_then (opened_e0 u.secret) ((held_of_user w armed row).files E0) ≡ Some p0
    → AllZip
    (λ its t. SealsToken its ((held_of_user w armed row).files P1) t.bytes u.secret p0)
    (map (λ t. held w (token_of row t.id)) more) more
