-- Ids and slots that aren't taken yet.
use Rattle.std.specs.Prelude.{◌≡◌, true, false, ℕ, ◌+◌, ◌*◌, ◌/◌, ◌<◌, Bool, if◌then◌else◌, List, ◌∷◌, length}
use Rattle.ls_vault.specs.Fresh.{first_free}
use Rattle.ls_arming.specs.Numbers.{contains}

-- these numbers, and 0 beside them where the test holds
abbrev pub beside : Bool → List ℕ → List ℕ
beside zero taken = if zero then 0 ∷ taken else taken

-- the number with its lowest bit cleared
abbrev pub even : ℕ → ℕ
even d = 2 * (d / 2)

-- The drawn number d with its lowest bit cleared, or the first after it in steps of 2, with 0 after
-- 2^64, that is neither 0 nor taken. No more steps are needed than numbers can't be had.
abbrev pub fresh_even : ℕ → List ℕ → ℕ
fresh_even d taken = first_free (length taken + 1) (even d) (0 ∷ taken)

-- all numbers below this one are taken
abbrev pub AreTakenBelow : ℕ → List ℕ → Type 0
AreTakenBelow count taken = (slot : ℕ) → slot < count → contains taken slot ≡ true

-- the lowest number below the count that isn't taken
pub record IsLowestFree (count : ℕ) (taken : List ℕ) (slot : ℕ) : Type 0 where
  pub below : slot < count
  pub free : contains taken slot ≡ false
  pub lowest : AreTakenBelow slot taken
