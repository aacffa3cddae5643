-- Calls that a command makes before it changes what is stored.
use Rattle.std.specs.Prelude.{◌≡◌, IsTrue, Result, Err, IfErr, OnOk}
use Rattle.ls_board.specs.declared.action.BoardFault.{BoardFault}
use Rattle.ls_board.specs.declared.world.World.{World}
use Rattle.ls_board.specs.Acts.{Sight}
use Rattle.ls_drawing.specs.Drawing.{stop_of}
use Rattle.ls_script.specs.declared.reply.Reply.{Reply}
use Rattle.ls_vault.specs.Script.{Stage}
use Rattle.ls_turn.specs.declared.session.Session.{Session}
use Rattle.ls_turn.specs.declared.stop.Stop.{Stop}
use Rattle.ls_turn.specs.Serving.{CanServe, Serves, Turned, Always, stage_in, stopped_by}

-- What a command does that goes on behind these calls it does from before them, with the moments and
-- the noise that were left then; and the session may be served there.
pub record GoesOn (old new : Sight) : Type 0 where
  pub told : new.told ≡ old.told
  pub slots : new.slots ≡ old.slots
  pub serves : (x y : Session) (turn : Stage → Turned) (result : Result Reply Stop) (end : Sight)
      → Serves new x (λ at. turn (stage_in old.world at.state)) Always result y end
      → Serves old x turn Always result y end
  pub can : (x : Session) → CanServe old x → CanServe new x

-- A command stops by this fault of them.
abbrev pub StopsBy : Sight → BoardFault → Sight → Type 0
StopsBy old fault new =
    (x : Session) (turn : Stage → Turned)
    → Serves old x turn Always (Err (stop_of fault))
    (record x { stopped = stopped_by (stop_of fault) x.stopped }) new

-- The files and the devices are as they were; another file may be no longer touched.
abbrev pub IsStored : World → World → Type 0
IsStored old new = new ≡ record old {
  touched = new.touched;
  input = new.input;
  said = new.said;
  moments = new.moments;
  noise = new.noise;
}

-- They are made, or one of them fails.
pub record Passes {T : Type 0} (old : Sight) (result : Result T BoardFault) (new : Sight) : Type 0 where
  pub goes : OnOk result (GoesOn old new)
  pub stops : IfErr result (λ fault. StopsBy old fault new)
  pub stored : IsTrue old.told → IsStored old.world new.world
