-- How the serving of a script ended.
use Rattle.std.specs.Prelude.{◌≡◌, ◌<◌, ◌≤◌, ◌+◌, ◌^◌, ℕ, [], List, take, drop, length}
use Rattle.ls_board.specs.declared.world.World.{World}
use Rattle.ls_board.specs.Acts.{Sight}
use Rattle.ls_lines.specs.Lines.{parted, lines_of}
use Rattle.ls_serving.specs.declared.hearing.Ending.{Ending}
use Rattle.ls_serving.specs.declared.hearing.Ending.TheVariants.{AtEnd, AtLimit}
use Rattle.ls_serving.specs.Machine.{Machine}
use Rattle.ls_serving.specs.Serving.{Serving, Progress}

-- what the input was and is, by how the hearing ended
abbrev pub IsInputAt : World → World → Ending → Type 0
IsInputAt old new AtEnd = (length old.input ≤ 2 ^ 30) × (new.input ≡ [])
IsInputAt old new AtLimit = (2 ^ 30 < length old.input) × (new.input ≡ drop (2 ^ 30 + 1) old.input)

-- one byte more came than a script may have, and the lines that were complete before it are answered
abbrev pub IsTooLong : (m : Machine) (agrees : World → m.Stage → Type 0) → Sight → Sight → m.Stage → Type 0
IsTooLong m agrees start now first =
    (2 ^ 30 < length start.world.input) × (now.world.input ≡ drop (2 ^ 30 + 1) start.world.input)
    × Serving m agrees start now first (parted (take (2 ^ 30) start.world.input)).whole

-- where the hearing ended
abbrev pub IsEnding : (m : Machine) (agrees : World → m.Stage → Type 0) → Sight → Sight → m.Stage → List ℕ → Ending → Type 0
IsEnding m agrees start now first line AtEnd =
    (length start.world.input ≤ 2 ^ 30) × (now.world.input ≡ [])
    × Progress m agrees start now first start.world.input line
IsEnding m agrees start now first line AtLimit = IsTooLong m agrees start now first

-- How a script was served. At its end all lines are answered, and no file is touched.
abbrev pub IsOutcome : (m : Machine) (agrees : World → m.Stage → Type 0) → Sight → Sight → m.Stage → Ending → Type 0
IsOutcome m agrees start now first AtEnd =
    (length start.world.input ≤ 2 ^ 30) × (now.world.input ≡ []) × (now.world.touched ≡ [])
    × Serving m agrees start now first (lines_of start.world.input)
IsOutcome m agrees start now first AtLimit = IsTooLong m agrees start now first
