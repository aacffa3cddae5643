-- How the serving of a script ended.
use Rattle.std.specs.Prelude.{◌≡◌, ◌<◌, ◌≤◌, ◌+◌, ◌^◌, ℕ, [], List, take, drop, length}
use Rattle.ls_board.specs.Acts.{Sight}
use Rattle.ls_top.specs.declared.hearing.Ending.{Ending}
use Rattle.ls_top.specs.declared.hearing.Ending.TheVariants.{AtEnd, AtLimit}
use Rattle.ls_lines.specs.Lines.{parted, lines_of}
use Rattle.ls_top.specs.Serving.{Serving, Progress}

-- where the hearing ended
abbrev pub IsEnding : Sight → Sight → List ℕ → List ℕ → List ℕ → Ending → Type 0
IsEnding start now first users line AtEnd =
    (length start.world.input ≤ 2 ^ 30) × (now.world.input ≡ [])
    × Progress start now first start.world.input users line
IsEnding start now first users line AtLimit =
    (2 ^ 30 < length start.world.input) × (now.world.input ≡ drop (2 ^ 30 + 1) start.world.input)
    × Serving start now first (parted (take (2 ^ 30) start.world.input)).whole users

-- how a script was served
abbrev pub IsOutcome : Sight → Sight → List ℕ → Ending → Type 0
IsOutcome start now first AtEnd =
    (length start.world.input ≤ 2 ^ 30) × (now.world.input ≡ [])
    × ((users : List ℕ) × Serving start now first (lines_of start.world.input) users)
IsOutcome start now first AtLimit =
    (2 ^ 30 < length start.world.input) × (now.world.input ≡ drop (2 ^ 30 + 1) start.world.input)
    × ((users : List ℕ) × Serving start now first (parted (take (2 ^ 30) start.world.input)).whole users)
