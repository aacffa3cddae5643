-- Protectors that are written one after the other.
use Rattle.std.specs.Prelude.{◌≡◌, ℕ, List, Option, Some}
use Rattle.std.specs.List.{flat_map, Contains}
use Rattle.ls_formats.specs.declared.part.FilePart.{FilePart}
use Rattle.ls_board.specs.declared.action.Action.{Action}
use Rattle.ls_board.specs.Reach.{Reach}
use Rattle.ls_sealing.specs.Protectors.{Protector, file_name}
use Rattle.ls_sealing.specs.Building.{Writing, writing_actions}

-- a protector, the slot that it is to have, and what is written of it
pub record Written : Type 0 where
  pub of : Protector
  pub slot : Option ℕ
  pub writing : Writing

-- the actions that write all of these in order
abbrev pub writing_all : List Written → List Action
writing_all all = flat_map (λ x. writing_actions x.of x.slot x.writing) all

-- the files, the slots, the Gatekeeper's records and the keys of all of these
abbrev pub reach_of_all : List Written → Reach
reach_of_all all = record {
  files = λ n. (x : Written) × Contains all x × (part : FilePart) × (n ≡ file_name x.of part);
  slots = λ n. (x : Written) × Contains all x × (x.slot ≡ Some n);
  sids = λ sid. (x : Written) × Contains all x × (sid ≡ x.of.id);
  aliases = λ alias. (x : Written) × Contains all x × (alias ≡ x.of.id);
  cell = ⊥;
}
