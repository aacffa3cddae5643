-- Formats as data: which bytes may stand one after another.
use Rattle.std.specs.Prelude.{◌≡◌, ◌⊎◌, ℕ, suc, max, Bool, true, if◌then◌else◌, List, [], ◌∷◌, Option, None, Some}
use Rattle.std.specs.Option.{option_map}

-- What may stand from some place on: nothing more; a byte that passes a test, and behind it what
-- may follow that byte; or what either of two formats lets stand there.
pub data Format : Type 0 where
  ended : Format
  byte : (ℕ → Bool) → (ℕ → Format) → Format
  either : Format → Format → Format

-- the bytes are in the format
abbrev pub IsIn : Format → List ℕ → Type 0
IsIn ended [] = Unit {0}
IsIn ended (b ∷ bytes) = ⊥
IsIn (byte test next) [] = ⊥
IsIn (byte test next) (b ∷ bytes) = (test b ≡ true) × IsIn (next b) bytes
IsIn (either this that) bytes = IsIn this bytes ⊎ IsIn that bytes

-- the later of two faults, where there are two
abbrev pub later : Option ℕ → Option ℕ → Option ℕ
later None second = None
later (Some m) None = None
later (Some m) (Some n) = Some (max m n)

-- the first place, from 0, at which the bytes leave the format
abbrev pub first_fault : Format → List ℕ → Option ℕ
first_fault ended [] = None
first_fault ended (b ∷ bytes) = Some 0
first_fault (byte test next) [] = Some 0
first_fault (byte test next) (b ∷ bytes) =
    if test b then option_map suc (first_fault (next b) bytes) else Some 0
first_fault (either this that) bytes = later (first_fault this bytes) (first_fault that bytes)
