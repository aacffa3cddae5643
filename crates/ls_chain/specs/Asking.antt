-- The asking of a device: what it tells, and what a crash within it leaves.
use Rattle.std.specs.Prelude.{◌≡◌, ◌+◌, IsTrue, [], Some, Result, IfOk, OnOk}
use Rattle.ls_board.specs.declared.action.Action.{Action}
use Rattle.ls_board.specs.declared.action.Answer.{Answer}
use Rattle.ls_board.specs.declared.action.Answer.TheVariants.{Accepted, Wrong, Throttled, Unknown}
use Rattle.ls_board.specs.declared.action.Part.{Part}
use Rattle.ls_board.specs.Effect.{after, weight_of, Answers}
use Rattle.ls_board.specs.Acts.{Sight}
use Rattle.ls_board.specs.Images.{LeavesWithin}
use Rattle.ls_board.specs.Keeping.{Keeps}
use Rattle.ls_board.specs.Runs.{LeavesOnly}
use Rattle.ls_chain.specs.Calling.{CallsAtMost}
use Rattle.ls_chain.specs.declared.asking.HandleAnswer.{HandleAnswer}
use Rattle.ls_chain.specs.declared.asking.HandleAnswer.TheVariants.{Accepted as Known, Wrong as Missed, Throttled as Resting, Unknown as Strange}

-- One action of a device, whose answer is one of these.
pub record AsksDevice {T : Type 0} (a : Action) (answer_of : T → Answer) (old : Sight)
    (result : Result T Part) (new : Sight) : Type 0 where
  pub keeps : Keeps {T = T} {E = Part} (λ part. part) old new result
  pub actions : new.actions + 1 ≡ old.actions
  pub bytes : new.bytes + weight_of a ≡ old.bytes
  pub tells : IsTrue old.told → IfOk result (λ t. Answers old.world a (answer_of t) [])
  pub done : IsTrue old.told → OnOk result (new.world ≡ after old.world a 0)
  pub calls : IsTrue old.told → CallsAtMost (Some a) old new
  -- whole or absent
  pub crash : IsTrue old.told → LeavesOnly old new (LeavesWithin old.world a)

-- what the Gatekeeper answers, as an answer of the board
abbrev pub verify_of : HandleAnswer → Answer
verify_of (Known sid) = Accepted sid
verify_of (Missed rest) = Wrong rest
verify_of (Resting rest) = Throttled rest
verify_of Strange = Unknown
