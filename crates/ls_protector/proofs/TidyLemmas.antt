-- The removing of the first of some files that aren't named.
use Rattle.std.proofs.Common.{◌≤◌, ℕ, IsTrue, List, [], ◌∷◌, length, arith}
use Rattle.std.specs.Prelude.{Result}
use Rattle.std.specs.List.{Contains}
use Rattle.ls_board.specs.declared.action.Part.{Part}
use Rattle.ls_board.specs.Acts.{Sight}
use Rattle.ls_board.specs.Reach.{SameBut}
use Rattle.ls_board.specs.Runs.{CanRun}
use Rattle.ls_standing.proofs.ContainsLemmas.{at_first}
use Rattle.ls_protector.specs.Parts.{first_removed, reach_of_names}
use Rattle.ls_protector.specs.Clear.{AreUnnamedOn, KeepsVaults}
use Rattle.ls_protector.specs.Steps.{Steps}
use Rattle.ls_protector.proofs.StandLemmas.{world_same, names_stand}
use Rattle.ls_protector.proofs.PartLemmas.{first_touch}

pub can_tidy : (s : Sight) (names : List (List ℕ)) → 1 ≤ s.actions → ((n : List ℕ) → Contains names n → length n ≤ s.bytes) → CanRun s (first_removed names)
can_tidy s [] room bytes = record { actions = omega arith; bytes = omega arith; sound = tt; applies = λ told. tt }
can_tidy s (n ∷ names) room bytes = record {
  actions = omega (arith, room);
  bytes = let its = bytes n (at_first n names) in omega (arith, its);
  sound = (tt, tt);
  applies = λ told. (tt, tt);
}

module _ (old new : Sight) (names : List (List ℕ)) (result : Result (Unit {0}) Part) (steps : Steps {T = Unit {0}} old (first_removed names) result new) where
  pub tidied_but : IsTrue old.told → SameBut (reach_of_names names) old.world new.world
  tidied_but told = world_same (reach_of_names names) old.world new.world (first_removed names) (first_touch names) (steps.world told)

  pub tidied_stands : AreUnnamedOn old names → KeepsVaults old new
  tidied_stands clear = names_stand old new (first_removed names) steps.world steps.crash names (first_touch names) clear
