-- Noise is drawn over a board, and a call fails.
use Rattle.std.specs.Prelude.{◌≡◌, ◌⊎◌, ℕ, List, [], Result, Ok, Err}
use Rattle.ls_board.specs.declared.action.Action.TheVariants.{Draw}
use Rattle.ls_board.specs.declared.action.Answer.TheVariants.{Bytes}
use Rattle.ls_board.specs.declared.action.BoardFault.{BoardFault}
use Rattle.ls_board.specs.declared.action.BoardFault.TheVariants.{Failed, Memory}
use Rattle.ls_board.specs.Acts.{Sight, Acts, Readies}
use Rattle.ls_bytes.specs.declared.memory.Memory.{Memory as NoMemory}
use Rattle.ls_turn.specs.declared.stop.Stop.{Stop}
use Rattle.ls_turn.specs.declared.stop.Stop.TheVariants as stop

-- The drawing gives these bytes, or fails; or it isn't begun for want of memory.
abbrev pub IsDrawing : ℕ → Sight → Result (List ℕ) BoardFault → Sight → Type 0
IsDrawing len mid (Ok bytes) new = Acts mid (Draw len) (Ok Bytes) bytes new
IsDrawing len mid (Err fault) new =
    Acts mid (Draw len) (Err fault) [] new ⊎ ((fault ≡ Memory) × (new ≡ mid))

-- Room is made for the drawing of so many bytes, and that is the one call.
pub record Draws (len : ℕ) (old : Sight) (result : Result (List ℕ) BoardFault) (new : Sight) : Type 0 where
  pub mid : Sight
  pub made : Result (Unit {0}) NoMemory
  pub room : Readies old 1 0 made mid
  pub drawing : IsDrawing len mid result new

-- how a session stops by the fault of a call
abbrev pub stop_of : BoardFault → Stop
stop_of (Failed part) = stop.Fault part
stop_of Memory = stop.Memory
