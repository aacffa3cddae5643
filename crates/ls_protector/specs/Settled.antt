-- What is known of the parts of a protector in a world.
use Rattle.std.specs.Prelude.{◌≡◌, ◌≢◌, ℕ, true, List, None, Some}
use Rattle.std.specs.List.{Contains}
use Rattle.ls_weaver.specs.Slots.{blank_slot}
use Rattle.ls_board.specs.declared.world.World.{World}
use Rattle.ls_board.specs.Effect.{file_at, touch_at, slot_at}
use Rattle.ls_board.specs.Gatekeeper.{record_at}
use Rattle.ls_board.specs.Keys.{key_at}
use Rattle.ls_formats.specs.declared.parts.Parts.{Parts}

-- None of its files is touched: so each image of the world has it as it stands.
pub record IsSettled (w : World) (p : Parts) : Type 0 where
  pub still : (n : List ℕ) → Contains p.names n → touch_at w n ≡ None

-- The worlds have the same files, slot, key and Gatekeeper's record of it.
pub record SamePartsOf (p : Parts) (old new : World) : Type 0 where
  pub file : (n : List ℕ) → Contains p.names n → file_at new n ≡ file_at old n
  pub slot : (n : ℕ) → p.slot ≡ Some n → slot_at new n ≡ slot_at old n
  pub key : key_at new.keys p.id ≡ key_at old.keys p.id
  pub counter : p.gk ≡ true → record_at new.gk p.id ≡ record_at old.gk p.id

-- Its slot is blank, and its key and its Gatekeeper's record are gone. Files may be left.
pub record IsErased (w : World) (p : Parts) : Type 0 where
  pub slot : (n : ℕ) → p.slot ≡ Some n → slot_at w n ≡ blank_slot
  pub key : key_at w.keys p.id ≡ None
  pub counter : p.gk ≡ true → record_at w.gk p.id ≡ None

-- The two have no file, slot or id in common.
pub record AreApart (p q : Parts) : Type 0 where
  pub files : (n : List ℕ) → Contains p.names n → ¬ (Contains q.names n)
  pub slots : (n : ℕ) → p.slot ≡ Some n → ¬ (q.slot ≡ Some n)
  pub ids : p.id ≢ q.id
