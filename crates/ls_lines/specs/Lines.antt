-- A script is parted into lines.
use Rattle.std.specs.Prelude.{◌≢◌, ◌∷◌, ◌++◌, ◌==◌, ℕ, [], if◌then◌else◌, List, count_by}
use Rattle.std.specs.List.{AllByRecursion}

-- ---- lines

-- a line with its 0x0A
abbrev pub ended : List ℕ → List ℕ
ended line = line ++ 10 ∷ []

-- no 0x0A stands in it
abbrev pub HasNoEnd : List ℕ → Type 0
HasNoEnd bytes = AllByRecursion (λ b. b ≢ 10) bytes

-- how many lines are ended in these bytes
abbrev pub ended_count : List ℕ → ℕ
ended_count bytes = count_by (λ b. b == 10) bytes

-- ---- scripts

-- a script parted at 0x0A: the lines that a 0x0A ends, and what stands behind the last of them
pub record Parting : Type 0 where
  pub whole : List (List ℕ)
  pub rest : List ℕ

-- with one byte more at the front, which is no 0x0A
abbrev pub with_first : ℕ → List (List ℕ) → List ℕ → Parting
with_first b [] rest = record { whole = []; rest = b ∷ rest }
with_first b (line ∷ lines) rest = record { whole = (b ∷ line) ∷ lines; rest = rest }

abbrev pub parted : List ℕ → Parting
parted [] = record { whole = []; rest = [] }
parted (b ∷ script) =
    if b == 10 then record { whole = [] ∷ (parted script).whole; rest = (parted script).rest }
    else with_first b (parted script).whole (parted script).rest

-- a last line that no 0x0A ends is a line if it isn't empty
abbrev pub last_line : List ℕ → List (List ℕ)
last_line [] = []
last_line (b ∷ rest) = (b ∷ rest) ∷ []

-- the lines of a script
abbrev pub lines_of : List ℕ → List (List ℕ)
lines_of script = (parted script).whole ++ last_line (parted script).rest
