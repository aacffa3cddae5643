-- Checking the files that a record names, before anything is changed.
use Rattle.std.specs.Prelude.{◌≡◌, ℕ, IsTrue, List, None, Some, Result, Err, OnOk}
use Rattle.ls_board.specs.Acts.{Sight}
use Rattle.ls_board.specs.Images.{Leaves}
use Rattle.ls_board.specs.Keeping.{Keeps}
use Rattle.ls_board.specs.Runs.{LeavesOnly}
use Rattle.ls_record.specs.Rows.{Rec}
use Rattle.ls_settings.specs.declared.fault.OpenRefusal.{OpenRefusal}
use Rattle.ls_settings.specs.declared.fault.OpenRefusal.TheVariants.{Foreign, Fault}
use Rattle.ls_standing.specs.Opening.{first_foreign}

-- The files that the record names are read, and nothing is changed. It ends well only where none is at
-- fault, and else names the first that is.
pub record Checks {T : Type 0} (r : Rec) (old : Sight) (result : Result T OpenRefusal) (new : Sight) : Type 0 where
  pub keeps : Keeps {T = T} {E = OpenRefusal} Fault old new result
  pub same : IsTrue old.told → new.world ≡ old.world
  pub crash : IsTrue old.told → LeavesOnly old new (Leaves old.world)
  pub none : IsTrue old.told → OnOk result (first_foreign old.world r ≡ None)
  pub foreign : IsTrue old.told → (name : List ℕ) (at : ℕ) → result ≡ Err (Foreign name at)
      → first_foreign old.world r ≡ Some (record { name = name; at = at })
