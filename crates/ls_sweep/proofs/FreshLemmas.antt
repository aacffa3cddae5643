-- What can be had beside what is taken.
use Rattle.std.proofs.Common.{◌≡◌, ◌&&◌, ◌||◌, ◌==◌, ℕ, Bool, true, false, List, refl}
use Rattle.ls_arming.specs.Numbers.{contains}
use Rattle.ls_sweep.specs.FreshIds.{beside}

-- what can't be had is taken, or is 0 beside what is taken
pub barred : (none : Bool) (taken : List ℕ) (d : ℕ) → contains (beside none taken) d ≡ ((none && (0 == d)) || contains taken d)
barred true taken d = refl
barred false taken d = refl
