-- When two worlds hold the same of a protector.
use Rattle.std.specs.Prelude.{◌≡◌, ℕ, true, length, Option, Some, None}
use Rattle.ls_formats.specs.declared.part.FilePart.{FilePart}
use Rattle.ls_board.specs.declared.world.World.{World}
use Rattle.ls_board.specs.Effect.{file_at, touch_at, slot_at}
use Rattle.ls_board.specs.Gatekeeper.{record_at}
use Rattle.ls_board.specs.Keys.{key_at}
use Rattle.ls_board.specs.Reach.{Reach}
use Rattle.ls_sealing.specs.Protectors.{Protector, has_part, is_enrolled, file_name, has_weaver, held_number}

-- the protector has this part
abbrev pub Has : World → Protector → FilePart → Type 0
Has w p part = has_part (has_weaver w) p.purpose part ≡ true

-- The worlds have the same files, slot, Gatekeeper record and key of the protector.
pub record SameParts (p : Protector) (old new : World) : Type 0 where
  pub count : length new.slots ≡ length old.slots
  pub file : (part : FilePart) → Has old p part
      → file_at new (file_name p part) ≡ file_at old (file_name p part)
  pub slot : (n : ℕ) → held_number old p ≡ Some n → slot_at new n ≡ slot_at old n
  pub counter : is_enrolled (has_weaver old) p.purpose ≡ true
      → record_at new.gk p.id ≡ record_at old.gk p.id
  pub device : new.gk_key ≡ old.gk_key
  pub key : key_at new.keys p.id ≡ key_at old.keys p.id

-- none of its files was touched
abbrev pub IsUntouched : World → Protector → Type 0
IsUntouched w p = (part : FilePart) → Has w p part → touch_at w (file_name p part) ≡ None

-- what is reached is none of its parts
pub record Spares (reach : Reach) (w : World) (p : Protector) : Type 0 where
  pub file : (part : FilePart) → Has w p part → ¬ (reach.files (file_name p part))
  pub slot : (n : ℕ) → held_number w p ≡ Some n → ¬ (reach.slots n)
  pub counter : is_enrolled (has_weaver w) p.purpose ≡ true → ¬ (reach.sids p.id)
  pub key : ¬ (reach.aliases p.id)

-- ---- the parts themselves

-- the files, the slot, the Gatekeeper's record and the key of a protector
abbrev pub reach_of : Protector → Option ℕ → Reach
reach_of p slot = record {
  files = λ n. (part : FilePart) × (n ≡ file_name p part);
  slots = λ n. slot ≡ Some n;
  sids = λ sid. sid ≡ p.id;
  aliases = λ alias. alias ≡ p.id;
  cell = ⊥;
}
