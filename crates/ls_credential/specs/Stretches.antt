-- The longest stretch of a text.
use Rattle.std.specs.Prelude.{ℕ, ◌+◌, ◌==◌, ◌&&◌, ◌||◌, Bool, true, List, [], ◌∷◌, ◌++◌, length, map, filter, max}
use Rattle.ls_credential.specs.declared.stretch.Step.{Step}
use Rattle.ls_credential.specs.declared.stretch.Step.TheVariants.{Down, Level, Up}

-- the second byte follows the first in a stretch of this step
abbrev pub follows : Step → ℕ → ℕ → Bool
follows Down first next = first == next + 1
follows Level first next = first == next
follows Up first next = first + 1 == next

-- each byte follows the one before it; a byte alone is a stretch
abbrev pub is_stretch_of : Step → List ℕ → Bool
is_stretch_of step [] = true
is_stretch_of step (b ∷ []) = true
is_stretch_of step (b ∷ c ∷ text) = follows step b c && is_stretch_of step (c ∷ text)

-- each byte differs from the one before it by one same amount of -1, 0 or 1
abbrev pub is_stretch : List ℕ → Bool
is_stretch text = is_stretch_of Down text || (is_stretch_of Level text || is_stretch_of Up text)

-- what a text begins with: nothing, its first byte, its first two, and so on to all of it
abbrev pub fronts : List ℕ → List (List ℕ)
fronts [] = [] ∷ []
fronts (b ∷ text) = [] ∷ map (λ front. b ∷ front) (fronts text)

-- the parts of a text: what it begins with from some byte on
abbrev pub parts : List ℕ → List (List ℕ)
parts [] = [] ∷ []
parts (b ∷ text) = fronts (b ∷ text) ++ parts text

-- the greatest length of the texts, 0 where there is none
abbrev pub greatest_length : List (List ℕ) → ℕ
greatest_length [] = 0
greatest_length (text ∷ texts) = max (length text) (greatest_length texts)

-- the length of the longest part that is a stretch
unfoldable pub run_of : List ℕ → ℕ
run_of text = greatest_length (filter is_stretch (parts text))
