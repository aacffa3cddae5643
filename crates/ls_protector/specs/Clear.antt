-- When a record names nothing of the parts of a protector, and when it names the protector.
use Rattle.std.specs.Prelude.{◌≡◌, ◌⊎◌, ℕ, true, IsTrue, List, Some}
use Rattle.std.specs.List.{Contains}
use Rattle.ls_record.specs.Rows.{Rec}
use Rattle.ls_record.specs.declared.row.UserRow.{UserRow}
use Rattle.ls_naming.specs.Current.{Settled}
use Rattle.ls_naming.specs.Named.{NamesSlot, NamesKey, NamesEnrolled}
use Rattle.ls_board.specs.declared.world.World.{World}
use Rattle.ls_board.specs.Acts.{Sight}
use Rattle.ls_board.specs.Effect.{file_at}
use Rattle.ls_board.specs.Runs.{LeavesOnly}
use Rattle.ls_sealing.specs.Protectors.{has_weaver}
use Rattle.ls_standing.specs.Quiet.{IsUnnamed}
use Rattle.ls_standing.specs.Standing.{StandsDurably}
use Rattle.ls_vault.specs.declared.vault.Vault.{Vault}
use Rattle.ls_formats.specs.declared.parts.Parts.{Parts}

-- ---- what is named

-- none of these is a settings file or a file that the record names
abbrev pub AreUnnamed : World → Rec → List (List ℕ) → Type 0
AreUnnamed w r names = (n : List ℕ) → Contains names n → IsUnnamed w r n

-- The record, and the files that it names, name nothing of the parts.
pub record IsClear (w : World) (r : Rec) (p : Parts) : Type 0 where
  pub files : AreUnnamed w r p.names
  pub slot : (n : ℕ) → p.slot ≡ Some n → ¬ (NamesSlot (has_weaver w) r (file_at w) n)
  pub key : ¬ (NamesKey r p.id)
  pub counter : p.gk ≡ true → ¬ (NamesEnrolled (has_weaver w) r p.id)

-- A row of the user has the id: it is that of its credential, or of a token.
abbrev pub NamesParts : Rec → Parts → Type 0
NamesParts r p =
    (row : UserRow) × Contains r.users row × (row.user ≡ p.user)
    × ((row.protector ≡ p.id) ⊎ Contains row.tokens p.id)

-- ---- by the current record of a board

-- Where the world is told and stands for a vault, its record names nothing of the parts.
abbrev pub IsClearOf : Sight → Parts → Type 0
IsClearOf b p =
    IsTrue b.told → (s : Settled) (v : Vault) → StandsDurably b.world s v → IsClear b.world s.rec p

-- and so none of these files
abbrev pub AreUnnamedOn : Sight → List (List ℕ) → Type 0
AreUnnamedOn b names =
    IsTrue b.told → (s : Settled) (v : Vault)
    → StandsDurably b.world s v → AreUnnamed b.world s.rec names

-- Of each vault for which the world stands: it stands for it at the end too, and so does each image
-- that a crash at any moment, or within any call, leaves.
pub record KeepsVaults (old new : Sight) : Type 0 where
  pub images : IsTrue old.told → (s : Settled) (v : Vault) → StandsDurably old.world s v
      → LeavesOnly old new (λ image. StandsDurably image s v)
  pub world : IsTrue old.told → (s : Settled) (v : Vault) → StandsDurably old.world s v
      → StandsDurably new.world s v
