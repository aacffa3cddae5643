-- Files that name a slot.
use Rattle.std.specs.Prelude.{◌&&◌, ℕ, Bool, false, bytes_eq, List, Option, None, Some}
use Rattle.ls_formats.specs.declared.part.FilePart.TheVariants.{Weaver}
use Rattle.ls_formats.specs.Contents.{slot_bytes}
use Rattle.ls_formats.specs.PartNames.{PartOf, part_name_text}
use Rattle.ls_naming.specs.Membership.{same_part}
use Rattle.ls_board.specs.declared.world.World.{World}
use Rattle.ls_board.specs.Effect.{file_at}

-- the file is there, and is the one of this slot
abbrev pub is_file_of : ℕ → Option (List ℕ) → Bool
is_file_of slot None = false
is_file_of slot (Some bytes) = bytes_eq bytes (slot_bytes (record { slot = slot }))

-- it is a `weaver` file, and names the slot
abbrev pub names_slot : World → ℕ → PartOf → Bool
names_slot w slot name =
    same_part Weaver name.part && is_file_of slot (file_at w (part_name_text name))
