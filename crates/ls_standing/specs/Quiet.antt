-- Which actions touch nothing that is named.
use Rattle.std.specs.Prelude.{◌≡◌, ◌≢◌, ◌⊎◌, ℕ, true, List, [], ◌∷◌, Option, None, Some, is_some}
use Rattle.ls_formats.specs.PartNames.{PartOf, part_name_text}
use Rattle.ls_record.specs.Rows.{Rec}
use Rattle.ls_naming.specs.Named.{NamesFile, NamesSlot, NamesKey, NamesEnrolled}
use Rattle.ls_board.specs.declared.action.Action.{Action}
use Rattle.ls_board.specs.declared.action.Action.TheVariants.{List as ListNames, Read, Make, Put, Poke, Remove, Sync, WeaverWrite, WeaverRead, GkSign, GkEnroll, GkVerify, GkForget, GkList, KeyPut, KeyOpen, KeyDrop, KeyList, ResumeStore, ResumeTake, Hear, Say, Now, Draw}
use Rattle.ls_board.specs.declared.world.World.{World}
use Rattle.ls_board.specs.Effect.{file_at, slot_at, after}
use Rattle.ls_board.specs.Gatekeeper.{sid_of, record_at}
use Rattle.ls_board.specs.Reach.{Reach}
use Rattle.ls_settings.specs.Loaded.{IsSettingsName}
use Rattle.ls_sealing.specs.Protectors.{Protector, HasNumbers, has_weaver, is_enrolled}

-- a file that is no settings file and that the record doesn't name
pub record IsUnnamed (w : World) (r : Rec) (n : List ℕ) : Type 0 where
  pub settings : ¬ (IsSettingsName n)
  pub named : (name : PartOf) → NamesFile (has_weaver w) r name → n ≢ part_name_text name

-- All that the record doesn't name.
abbrev pub unnamed : World → Rec → Reach
unnamed w r = record {
  files = IsUnnamed w r;
  slots = λ slot. ¬ (NamesSlot (has_weaver w) r (file_at w) slot);
  sids = λ sid. ¬ (NamesEnrolled (has_weaver w) r sid);
  aliases = λ alias. ¬ (NamesKey r alias);
  cell = r.armed ≡ None;
}

-- The protector has its numbers, and the record names none of its parts: not its id, and not the slot
-- that it has or is to have. Where it is one that is enrolled, the record doesn't name a Gatekeeper
-- record of its id.
pub record IsUnnamedProtector (w : World) (r : Rec) (p : Protector) (slot : Option ℕ) : Type 0 where
  pub numbers : HasNumbers p
  pub key : ¬ (NamesKey r p.id)
  pub its_slot : (n : ℕ) → slot ≡ Some n → ¬ (NamesSlot (has_weaver w) r (file_at w) n)
  pub counter : is_enrolled (is_some slot) p.purpose ≡ true
      → ¬ (NamesEnrolled (has_weaver w) r p.id)

-- The action is quiet in a world with this record: it changes no settings file and nothing that the
-- record names. A reading of a slot or a check of a handle may also meet what is named, where it
-- leaves it as it was; and an empty cell may be emptied.
abbrev pub IsQuiet : World → Rec → Action → Type 0
IsQuiet w r ListNames = Unit {0}
IsQuiet w r (Read n) = Unit {0}
IsQuiet w r (Make n len) = IsUnnamed w r n
IsQuiet w r (Put n bytes) = IsUnnamed w r n
IsQuiet w r (Poke n at bytes) = IsUnnamed w r n
IsQuiet w r (Remove n) = IsUnnamed w r n
IsQuiet w r Sync = Unit {0}
IsQuiet w r (WeaverWrite slot key value) = ¬ (NamesSlot (has_weaver w) r (file_at w) slot)
IsQuiet w r (WeaverRead slot key moment) =
    ¬ (NamesSlot (has_weaver w) r (file_at w) slot)
    ⊎ (slot_at (after w (WeaverRead slot key moment) 0) slot ≡ slot_at w slot)
IsQuiet w r (GkSign sid salt password) = Unit {0}
IsQuiet w r (GkEnroll sid) = ¬ (NamesEnrolled (has_weaver w) r sid)
IsQuiet w r (GkVerify handle password moment) =
    ¬ (NamesEnrolled (has_weaver w) r (sid_of handle))
    ⊎ (record_at (after w (GkVerify handle password moment) 0).gk (sid_of handle)
    ≡ record_at w.gk (sid_of handle))
IsQuiet w r (GkForget sid) = ¬ (NamesEnrolled (has_weaver w) r sid)
IsQuiet w r GkList = Unit {0}
IsQuiet w r (KeyPut alias key) = ¬ (NamesKey r alias)
IsQuiet w r (KeyOpen alias bytes) = Unit {0}
IsQuiet w r (KeyDrop alias) = ¬ (NamesKey r alias)
IsQuiet w r KeyList = Unit {0}
IsQuiet w r (ResumeStore key) = r.armed ≡ None
IsQuiet w r ResumeTake = (r.armed ≡ None) ⊎ (w.cell ≡ None)
IsQuiet w r (Hear max) = Unit {0}
IsQuiet w r (Say bytes) = Unit {0}
IsQuiet w r Now = Unit {0}
IsQuiet w r (Draw len) = Unit {0}

-- each of these is quiet in its turn
abbrev pub AllQuiet : World → Rec → List Action → Type 0
AllQuiet w r [] = Unit {0}
AllQuiet w r (a ∷ actions) = IsQuiet w r a × AllQuiet (after w a 0) r actions
