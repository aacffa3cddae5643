-- When two worlds have the same of all that a record names.
use Rattle.std.specs.Prelude.{◌≡◌, ℕ, length, Some, None}
use Rattle.ls_formats.specs.declared.side.Side.{Side}
use Rattle.ls_formats.specs.PartNames.{PartOf, part_name_text, settings_text}
use Rattle.ls_arming.specs.declared.arming.Arming.{Arming}
use Rattle.ls_record.specs.Rows.{Rec}
use Rattle.ls_naming.specs.Named.{NamesFile, NamesSlot, NamesKey, NamesEnrolled}
use Rattle.ls_board.specs.declared.world.World.{World}
use Rattle.ls_board.specs.Effect.{file_at, touch_at, slot_at}
use Rattle.ls_board.specs.Gatekeeper.{record_at}
use Rattle.ls_board.specs.Keys.{key_at}
use Rattle.ls_sealing.specs.Protectors.{has_weaver}

-- The worlds have the same files, slots, Gatekeeper records and keys of those that the record names,
-- and where it names an arming the same cell. They have as many slots, and one key under which the
-- Gatekeeper signs. No named file is touched that wasn't.
pub record SameNamed (r : Rec) (old new : World) : Type 0 where
  pub count : length new.slots ≡ length old.slots
  pub file : (name : PartOf) → NamesFile (has_weaver old) r name
      → file_at new (part_name_text name) ≡ file_at old (part_name_text name)
  pub touch : (name : PartOf) → NamesFile (has_weaver old) r name
      → touch_at old (part_name_text name) ≡ None → touch_at new (part_name_text name) ≡ None
  pub slot : (slot : ℕ) → NamesSlot (has_weaver old) r (file_at old) slot
      → slot_at new slot ≡ slot_at old slot
  pub counter : (sid : ℕ) → NamesEnrolled (has_weaver old) r sid
      → record_at new.gk sid ≡ record_at old.gk sid
  pub device : new.gk_key ≡ old.gk_key
  pub key : (alias : ℕ) → NamesKey r alias → key_at new.keys alias ≡ key_at old.keys alias
  pub cell : (armed : Arming) → r.armed ≡ Some armed → new.cell ≡ old.cell

-- The worlds have the same settings files, and none is touched that wasn't.
pub record SameSettings (old new : World) : Type 0 where
  pub file : (side : Side)
      → file_at new (settings_text side) ≡ file_at old (settings_text side)
  pub touch : (side : Side)
      → touch_at old (settings_text side) ≡ None → touch_at new (settings_text side) ≡ None

-- The worlds have the same files and the same devices. What is left to be heard, what was said, the
-- clock and the noise may differ.
pub record SameStorage (old new : World) : Type 0 where
  pub files : new.files ≡ old.files
  pub touched : new.touched ≡ old.touched
  pub slots : new.slots ≡ old.slots
  pub gk_key : new.gk_key ≡ old.gk_key
  pub gk : new.gk ≡ old.gk
  pub keys : new.keys ≡ old.keys
  pub cell : new.cell ≡ old.cell
