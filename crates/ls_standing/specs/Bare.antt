-- When a world keeps nothing that its record doesn't name.
use Rattle.std.specs.Prelude.{◌≡◌, ◌≢◌, ◌<◌, ◌⊎◌, ℕ, true, List, length, None, is_some}
use Rattle.std.specs.List.{Contains}
use Rattle.ls_formats.specs.declared.name.FileName.{FileName}
use Rattle.ls_formats.specs.FileNames.{IsFileName, name_text}
use Rattle.ls_formats.specs.PartNames.{PartOf, IsPartOf, part_name_text}
use Rattle.ls_record.specs.Rows.{Rec}
use Rattle.ls_naming.specs.Named.{NamesFile, NamesSlot, NamesKey, NamesEnrolled}
use Rattle.ls_weaver.specs.Slots.{blank_slot}
use Rattle.ls_board.specs.declared.world.World.{World}
use Rattle.ls_board.specs.Effect.{file_at, slot_at}
use Rattle.ls_board.specs.Gatekeeper.{record_at}
use Rattle.ls_board.specs.Keys.{key_at}
use Rattle.ls_board.specs.Reach.{Reach}
use Rattle.ls_sealing.specs.Protectors.{has_weaver}

-- the name of no file of the service
abbrev pub IsStrange : List ℕ → Type 0
IsStrange n = (name : FileName) → IsFileName name → n ≢ name_text name

-- Each file of a user or a protector is named by the record, or is one of the retired; each other
-- file but the settings is as at the start; each slot that isn't named is blank, each key and each
-- Gatekeeper record is named, and the cell is empty where the record names no arming.
pub record IsBare (start w : World) (r : Rec) (retired : List (List ℕ)) : Type 0 where
  pub files : (name : PartOf) → IsPartOf name → ¬ (NamesFile (has_weaver w) r name)
      → ¬ (Contains retired (part_name_text name)) → file_at w (part_name_text name) ≡ None
  pub strange : (n : List ℕ) → IsStrange n → file_at w n ≡ file_at start n
  pub slots : (slot : ℕ) → slot < length w.slots → ¬ (NamesSlot (has_weaver w) r (file_at w) slot)
      → slot_at w slot ≡ blank_slot
  pub counters : (sid : ℕ) → ¬ (NamesEnrolled (has_weaver w) r sid) → record_at w.gk sid ≡ None
  pub keys : (alias : ℕ) → ¬ (NamesKey r alias) → key_at w.keys alias ≡ None
  pub cell : r.armed ≡ None → w.cell ≡ None

-- what the record names, and the files of these names
abbrev pub named_by : World → Rec → List (List ℕ) → Reach
named_by w r retired = record {
  files = λ n.
      ((name : PartOf) × NamesFile (has_weaver w) r name × (n ≡ part_name_text name))
      ⊎ Contains retired n;
  slots = λ slot. NamesSlot (has_weaver w) r (file_at w) slot;
  sids = λ sid. NamesEnrolled (has_weaver w) r sid;
  aliases = λ alias. NamesKey r alias;
  cell = is_some r.armed ≡ true;
}
