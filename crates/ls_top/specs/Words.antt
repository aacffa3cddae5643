-- The words of the command line.
use Rattle.std.specs.Prelude.{◌≡◌, ◌<◌, ◌^◌, ℕ, List, [], ◌∷◌, codes}
use Rattle.std.specs.Fmt.{decimal}

-- `run --boot N`, where N is a number of 32 bits, spelled in decimal with no sign and no leading zero
pub record IsRunWords (words : List (List ℕ)) (boot : ℕ) : Type 0 where
  pub number : boot < 2 ^ 32
  pub spelled : words ≡ codes "run" ∷ codes "--boot" ∷ decimal boot ∷ []

-- the words have the one form that is served
abbrev pub IsRun : List (List ℕ) → Type 0
IsRun words = (boot : ℕ) × IsRunWords words boot
