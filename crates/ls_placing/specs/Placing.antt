-- Where a new protector goes: its slot, and its id.
use Rattle.std.specs.Prelude.{◌≡◌, ◌≢◌, ◌⊎◌, ℕ, List, [], ◌∷◌, map, flat_map, Option, None, Some, IfSome}
use Rattle.std.specs.List.{Contains}
use Rattle.ls_formats.specs.declared.parts.Parts.{Parts}
use Rattle.ls_formats.specs.PartNames.{PartOf, IsPartOf, part_name_text}
use Rattle.ls_sweep.specs.FreshIds.{IsLowestFree}
use Rattle.ls_turn.specs.Serving.{FitsBoard}

-- ---- slots

-- the slot, where there is one
abbrev pub slot_list : Option ℕ → List ℕ
slot_list None = []
slot_list (Some n) = n ∷ []

-- the slots that protectors have
abbrev pub slots_of : List Parts → List ℕ
slots_of parts = flat_map (λ p. slot_list p.slot) parts

-- On a board with so many slots it is the lowest one that isn't taken; on one without slots it is none.
pub record IsFreeSlot (slots : ℕ) (taken : List ℕ) (slot : Option ℕ) : Type 0 where
  pub fits : FitsBoard slots slot
  pub lowest : IfSome slot (IsLowestFree slots taken)

-- ---- ids

-- the id, where there is one
abbrev pub id_list : Option ℕ → List ℕ
id_list None = []
id_list (Some id) = id ∷ []

-- the ids that protectors have
abbrev pub ids_of : List Parts → List ℕ
ids_of parts = map (λ p. p.id) parts

-- This is the id that the name of a file says, if it says one.
pub record SaysOne (n : List ℕ) (id : Option ℕ) : Type 0 where
  pub said : (name : PartOf) → IsPartOf name → n ≡ part_name_text name → id ≡ Some name.id
  pub only : IfSome id (λ id.
      (name : PartOf) × IsPartOf name × (n ≡ part_name_text name) × (name.id ≡ id))

-- one of these names is that of a file of a protector with this id
abbrev pub SaysId : List (List ℕ) → ℕ → Type 0
SaysId names id = (name : PartOf) × IsPartOf name × Contains names (part_name_text name) × (name.id ≡ id)

-- These are the ids, and those that the names say.
pub record AreTakenIds (names : List (List ℕ)) (ids taken : List ℕ) : Type 0 where
  pub each : (id : ℕ) → Contains ids id ⊎ SaysId names id → Contains taken id
  pub only : (id : ℕ) → Contains taken id → Contains ids id ⊎ SaysId names id

-- ---- a new protector

-- None of these protectors has this id or this slot, and none of these names says the id.
pub record HasNewPlace (parts : List Parts) (names : List (List ℕ)) (id : ℕ) (slot : Option ℕ) : Type 0 where
  pub ids : (q : Parts) → Contains parts q → q.id ≢ id
  pub slots : (q : Parts) → Contains parts q → (n : ℕ) → q.slot ≡ Some n → slot ≢ Some n
  pub files : (name : PartOf) → IsPartOf name → Contains names (part_name_text name) → name.id ≢ id
