-- A moment is taken over a board.
use Rattle.std.specs.Prelude.{◌≡◌, ◌⊎◌, ℕ, [], Result, Ok, Err}
use Rattle.ls_board.specs.declared.action.Action.TheVariants.{Now}
use Rattle.ls_board.specs.declared.action.Answer.TheVariants.{Moment}
use Rattle.ls_board.specs.declared.action.BoardFault.{BoardFault}
use Rattle.ls_board.specs.declared.action.BoardFault.TheVariants.{Memory}
use Rattle.ls_board.specs.Acts.{Sight, Acts, Readies}
use Rattle.ls_bytes.specs.declared.memory.Memory.{Memory as NoMemory}

-- The clock gives this moment, or fails; or it isn't asked for want of memory.
abbrev pub IsTaking : Sight → Result ℕ BoardFault → Sight → Type 0
IsTaking mid (Ok moment) new = Acts mid Now (Ok (Moment moment)) [] new
IsTaking mid (Err fault) new =
    Acts mid Now (Err fault) [] new ⊎ ((fault ≡ Memory) × (new ≡ mid))

-- Room is made for the taking of a moment, and that is the one call.
pub record Takes (old : Sight) (result : Result ℕ BoardFault) (new : Sight) : Type 0 where
  pub mid : Sight
  pub made : Result (Unit {0}) NoMemory
  pub room : Readies old 1 0 made mid
  pub taking : IsTaking mid result new
