-- What opening checks, said of each file alone and of the slots together.
use Rattle.std.specs.Prelude.{◌≡◌, ◌<◌, ℕ, List, [], ◌∷◌, Option, None}
use Rattle.ls_formats.specs.declared.part.FilePart.{FilePart}
use Rattle.ls_formats.specs.declared.part.FilePart.TheVariants.{Handle, E0, P1, Resume}
use Rattle.ls_formats.specs.Contents.{AreBytes}
use Rattle.ls_formats.specs.PartNames.{PartOf}
use Rattle.ls_record.specs.declared.row.UserRow.{UserRow}
use Rattle.ls_record.specs.Rows.{Rec}
use Rattle.ls_naming.specs.Named.{NamesSlot}
use Rattle.ls_board.specs.declared.world.World.{World}
use Rattle.ls_board.specs.Effect.{file_at}
use Rattle.ls_board.specs.Gatekeeper.{version_of, sid_of}
use Rattle.ls_sealing.specs.Protectors.{has_weaver}
use Rattle.ls_standing.specs.Opening.{file_fault, beside, content_at}

-- the row's file is whole and passes its checks, where no earlier file names a slot
abbrev pub IsSoundFile : World → UserRow → PartOf → Type 0
IsSoundFile w row name = file_fault (beside w [] row) row name (content_at w name) ≡ None

-- each slot is named by one file
abbrev pub SlotsAreNamedOnce : World → Rec → Type 0
SlotsAreNamedOnce w r =
    (slot : ℕ) (one other : NamesSlot (has_weaver w) r (file_at w) slot) → one.name ≡ other.name

-- A file of a user itself, as its format and its checks have it: a handle of version 1 and of the
-- user's secure id; a sealed half of a secret, and the other half plain; or the version 1 and a
-- secret that is sealed twice.
abbrev pub IsOwnFile : UserRow → FilePart → List ℕ → Type 0
IsOwnFile row Handle bytes = AreBytes 49 bytes × (version_of bytes ≡ 1) × (sid_of bytes ≡ row.secure)
IsOwnFile row E0 bytes = AreBytes 60 bytes
IsOwnFile row P1 bytes = AreBytes 32 bytes
IsOwnFile row Resume bytes = (content : List ℕ) × (bytes ≡ 1 ∷ content) × AreBytes 184 content
IsOwnFile row _ bytes = ⊥
