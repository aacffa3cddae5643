-- The calls that fail.
use Rattle.std.specs.Prelude.{ℕ, Bool, true, false, ◌==◌, if◌then◌else◌, List, [], ◌∷◌, Option, None, Some}
use Rattle.ls_memboard.specs.declared.failure.Failure.{Failure}

-- whether the call of this number fails, by the first entry for it, and then whether it is done first
abbrev pub outcome_at : List Failure → ℕ → Option Bool
outcome_at [] call = None
outcome_at (f ∷ failures) call = if f.call == call then Some f.done else outcome_at failures call

-- whether no call fails
abbrev pub has_none : List Failure → Bool
has_none [] = true
has_none (f ∷ failures) = false
