-- Openings, as the answers of a board.
use Rattle.std.specs.Prelude.{ℕ, List, [], Result, Ok, Err}
use Rattle.ls_board.specs.declared.action.Answer.TheVariants as board
use Rattle.ls_board.specs.Keys.{IsOpening}
use Rattle.ls_keys.specs.declared.fault.KeyFault.{KeyFault}
use Rattle.ls_keys.specs.declared.fault.KeyFault.TheVariants.{NoKey, Tag, Memory}

-- It is what a board with these keys answers, unless there was no memory.
abbrev pub IsAnswered : List (ℕ × List ℕ) → ℕ → List ℕ → Result (List ℕ) KeyFault → Type 0
IsAnswered keys alias sealed (Ok text) = IsOpening keys alias sealed board.Bytes text
IsAnswered keys alias sealed (Err NoKey) = IsOpening keys alias sealed board.NoKey []
IsAnswered keys alias sealed (Err Tag) = IsOpening keys alias sealed board.BadTag []
IsAnswered keys alias sealed (Err Memory) = Unit {0}
