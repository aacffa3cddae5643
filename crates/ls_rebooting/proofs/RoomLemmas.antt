-- Room is made first.
use Rattle.std.proofs.Common.{refl, sym, ap, arith}
use Rattle.std.specs.Prelude.{ℕ, Result, Err}
use Rattle.ls_board.specs.declared.world.World.{World}
use Rattle.ls_board.specs.Acts.{Sight, Readies}
use Rattle.ls_script.specs.declared.reply.Reply.{Reply}
use Rattle.ls_vault.specs.Script.{Stage}
use Rattle.ls_turn.specs.declared.session.Session.{Session}
use Rattle.ls_turn.specs.declared.stop.Stop.{Stop}
use Rattle.ls_turn.specs.Serving.{Always, CanServe, Serves, Turned, stage_in}
use Rattle.ls_turn.proofs.BehindLemmas.{behind, keeps_room}
use Rattle.ls_turn.proofs.StoredLemmas.{stored_can}

-- none is made
abbrev pub none_made : Result (Unit {0}) (Unit {0})
none_made = Err tt

pub no_ready : (s : Sight) → Readies s 0 0 none_made s
no_ready s = record { same = refl; more = (omega arith, omega arith); room = tt }

module _ (old mid : Sight) {E : Type 0} (actions bytes : ℕ) (made : Result (Unit {0}) E) (room : Readies old actions bytes made mid) (x : Session) where
  -- the call may still be made
  pub room_can : CanServe old x → CanServe mid x
  room_can can = let kept = keeps_room old mid actions bytes made room in stored_can old mid x kept.told kept.slots kept.storage can

  -- what is served behind it is served
  pub behind_room : (new : Sight) (y : Session) (turn : Stage → Turned) (result : Result Reply Stop) → Serves mid x turn Always result y new → Serves old x turn Always result y new
  behind_room new y turn result serves =
      behind old mid new x y turn turn Always result (keeps_room old mid actions bytes made room)
      (λ told s agrees. ap (λ (w : World). turn (stage_in w s)) (sym (ap (λ (b : Sight). b.world) room.same))) serves
