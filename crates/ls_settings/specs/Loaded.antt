-- What is seen of the settings, and when they are those of the two files.
use Rattle.std.specs.Prelude.{◌≡◌, ℕ, Bool, true, false, List, length, Option, None, Some, IsSomeAnd, Ok}
use Rattle.ls_formats.specs.declared.side.Side.{Side}
use Rattle.ls_formats.specs.declared.side.Side.TheVariants.{First, Second}
use Rattle.ls_formats.specs.PartNames.{settings_text}
use Rattle.ls_naming.specs.Named.{Files}
use Rattle.ls_naming.specs.Current.{Settled, current, is_open}
use Rattle.ls_board.specs.declared.world.World.{World}
use Rattle.ls_board.specs.Effect.{file_at, touch_at}
use Rattle.ls_board.specs.Reach.{Reach}

-- ---- the two files

abbrev pub other_side : Side → Side
other_side First = Second
other_side Second = First

-- the file that a record is written to in whole: the one that isn't current, and the first where
-- none is
abbrev pub target_of : Option Side → Side
target_of None = First
target_of (Some side) = other_side side

-- the file of the side is current
abbrev pub is_side : Option Side → Side → Bool
is_side None side = false
is_side (Some First) First = true
is_side (Some First) Second = false
is_side (Some Second) First = false
is_side (Some Second) Second = true

-- a name of one of the two
abbrev pub IsSettingsName : List ℕ → Type 0
IsSettingsName name = (side : Side) × (name ≡ settings_text side)

-- the two files and nothing else
abbrev pub settings_reach : Reach
settings_reach = record {
  files = IsSettingsName;
  slots = λ slot. ⊥;
  sids = λ sid. ⊥;
  aliases = λ alias. ⊥;
  cell = ⊥;
}

-- a file of 4,096 bytes
abbrev pub IsWhole : Option (List ℕ) → Type 0
IsWhole file = IsSomeAnd file (λ bytes. length bytes ≡ 4096)

-- each settings file that isn't current has 4,096 bytes, so that loading would make none
abbrev pub MakesNone : Files → Option Side → Type 0
MakesNone files current =
    (side : Side) → ¬ (current ≡ Some side) → IsWhole (files (settings_text side))

-- neither settings file is touched
abbrev pub AreUntouched : World → Type 0
AreUntouched w = (side : Side) → touch_at w (settings_text side) ≡ None

-- ---- the settings

pub record Loaded : Type 0 where
  -- the record, its sequence number, the current file, where its journal ends, its body's format
  pub settled : Settled
  -- whether the gate of the other file is open, to which a record is written in whole
  pub target_open : Bool

-- they are those of the files
pub record AreOf (files : Files) (s : Loaded) : Type 0 where
  pub settled : current files ≡ Ok s.settled
  pub target : s.target_open ≡ is_open (files (settings_text (target_of s.settled.side)))

-- A commit may begin: the settings are those of the files, loading would make no settings file, and
-- none is touched.
pub record IsReady (w : World) (s : Loaded) : Type 0 where
  pub are : AreOf (file_at w) s
  pub whole : MakesNone (file_at w) s.settled.side
  pub untouched : AreUntouched w
