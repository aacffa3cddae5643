-- The parts of a protector, and the actions that erase them.
use Rattle.std.specs.Prelude.{◌≡◌, ◌++◌, ◌∷◌, [], ℕ, Bool, true, List, map, replicate, Option, Some}
use Rattle.std.specs.List.{Contains}
use Rattle.ls_naming.specs.Named.{only_if}
use Rattle.ls_board.specs.declared.action.Action.{Action}
use Rattle.ls_board.specs.declared.action.Action.TheVariants.{Remove, KeyDrop, GkForget}
use Rattle.ls_board.specs.Reach.{Reach}
use Rattle.ls_sealing.specs.declared.pushing.Place.{Place}
use Rattle.ls_sealing.specs.Protectors.{Purpose, Protector, is_enrolled, parts_for, file_name}
use Rattle.ls_sealing.specs.Building.{slot_writes}
use Rattle.ls_formats.specs.declared.parts.Parts.{Parts}

-- the protector that is there, and what it is for
abbrev pub protector_at : Place → Purpose → Protector
protector_at place purpose = record { user = place.user; id = place.id; purpose = purpose }

-- the names of its files, on a board with Weaver or without
abbrev pub names_for : Bool → Protector → List (List ℕ)
names_for weaver p = map (file_name p) (parts_for weaver p.purpose)

-- the parts of a protector with this slot
abbrev pub parts_of : Bool → Protector → Option ℕ → Parts
parts_of weaver p slot = record {
  user = p.user;
  id = p.id;
  slot = slot;
  gk = is_enrolled weaver p.purpose;
  names = names_for weaver p;
}

-- files of these names
abbrev pub reach_of_names : List (List ℕ) → Reach
reach_of_names names = record {
  files = Contains names;
  slots = λ n. ⊥;
  sids = λ sid. ⊥;
  aliases = λ alias. ⊥;
  cell = ⊥;
}

-- the files, the slot, the key and the Gatekeeper's record
abbrev pub reach_of_parts : Parts → Reach
reach_of_parts p = record {
  files = Contains p.names;
  slots = λ n. p.slot ≡ Some n;
  sids = λ sid. (p.gk ≡ true) × (sid ≡ p.id);
  aliases = λ alias. alias ≡ p.id;
  cell = ⊥;
}

-- all else
abbrev pub reach_beside_parts : Parts → Reach
reach_beside_parts p = record {
  files = λ n. ¬ (Contains p.names n);
  slots = λ n. ¬ (p.slot ≡ Some n);
  sids = λ sid. ¬ ((p.gk ≡ true) × (sid ≡ p.id));
  aliases = λ alias. ¬ (alias ≡ p.id);
  cell = Unit {0};
}

-- The slot is blanked, the key is dropped and the Gatekeeper's record is forgotten. The files are
-- left.
abbrev pub erasing_of : Parts → List Action
erasing_of p =
    slot_writes p.slot (replicate 16 0) (replicate 16 0)
    ++ (KeyDrop p.id ∷ only_if p.gk (GkForget p.id ∷ []))

-- the first of these files is removed, if there is one
abbrev pub first_removed : List (List ℕ) → List Action
first_removed [] = []
first_removed (n ∷ names) = Remove n ∷ []

-- the names that are left then
abbrev pub without_first : List (List ℕ) → List (List ℕ)
without_first [] = []
without_first (n ∷ names) = names
