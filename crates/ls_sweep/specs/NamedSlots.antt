-- The slots that a record names on a board.
use Rattle.std.specs.Prelude.{◌↔◌, ℕ, Bool, true, false, List, Option}
use Rattle.std.specs.List.{flat_map, Contains}
use Rattle.ls_arming.specs.declared.arming.Arming.{Arming}
use Rattle.ls_formats.specs.declared.part.FilePart.{FilePart}
use Rattle.ls_formats.specs.declared.part.FilePart.TheVariants.{SpBlob, Pwd, Secdis, Weaver, Metrics, Handle, E0, P1, Resume}
use Rattle.ls_formats.specs.PartNames.{PartOf}
use Rattle.ls_record.specs.declared.row.UserRow.{UserRow}
use Rattle.ls_record.specs.Rows.{Rec}
use Rattle.ls_naming.specs.Named.{row_files, named_files, NamesSlot}
use Rattle.ls_board.specs.declared.world.World.{World}
use Rattle.ls_board.specs.Effect.{file_at}
use Rattle.ls_sealing.specs.Protectors.{has_weaver}
use Rattle.ls_standing.specs.Opening.{content_at, slot_in}

-- the part whose file names a slot
abbrev pub is_slot_part : FilePart → Bool
is_slot_part SpBlob = false
is_slot_part Pwd = false
is_slot_part Secdis = false
is_slot_part Weaver = true
is_slot_part Metrics = false
is_slot_part Handle = false
is_slot_part E0 = false
is_slot_part P1 = false
is_slot_part Resume = false

-- the slots that these files name, in their order
abbrev pub slots_of : World → List PartOf → List ℕ
slots_of w names = flat_map (λ name. slot_in name.part (content_at w name)) names

-- the slots that the files of these rows name, in their order
abbrev pub slots_of_rows : World → Bool → Option Arming → List UserRow → List ℕ
slots_of_rows w weaver armed rows = flat_map (λ row. slots_of w (row_files weaver armed row)) rows

-- The slots that a record names, in the order of its files. A file that isn't there, or that isn't
-- a `weaver` file, names none.
abbrev pub slots_named : World → Rec → List ℕ
slots_named w r = slots_of w (named_files (has_weaver w) r)

-- these are exactly the slots that the record names in this world
abbrev pub AreNamedSlots : World → Rec → List ℕ → Type 0
AreNamedSlots w r slots =
    (slot : ℕ) → Contains slots slot ↔ NamesSlot (has_weaver w) r (file_at w) slot
