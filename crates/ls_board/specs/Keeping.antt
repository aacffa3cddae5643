-- What a call over a board keeps, whatever it answers.
use Rattle.std.specs.Prelude.{◌≡◌, ◌≢◌, ◌≤◌, Result, Err, OnOk}
use Rattle.ls_board.specs.declared.action.Part.{Part}
use Rattle.ls_board.specs.Acts.{Sight, Rose}

-- A fault of a part comes only where its count rose, and every other answer only where none grew.
pub record Keeps {T E : Type 0} (fault : Part → E) (old new : Sight) (result : Result T E) : Type 0 where
  pub told : new.told ≡ old.told
  pub never_fails : new.never_fails ≡ old.never_fails
  pub slots : new.slots ≡ old.slots
  pub later : (p : Part) → old.faults p ≤ new.faults p
  pub quiet : OnOk result (new.faults ≡ old.faults)
  pub other : (e : E) → result ≡ Err e → ((p : Part) → e ≢ fault p) → new.faults ≡ old.faults
  pub cause : (p : Part) → result ≡ Err (fault p) → Rose (old.faults p) (new.faults p)
