-- A command that draws noise first.
use Rattle.std.proofs.Common.{◌≡◌, inl, inr, ℕ, Bool, IsTrue, List, [], length, drop, refl, sym, ◌∙◌, ap, subst}
use Rattle.std.specs.Prelude.{Result, Ok, Err}
use Rattle.ls_board.specs.declared.action.Action.TheVariants.{Draw}
use Rattle.ls_board.specs.declared.action.Answer.TheVariants.{Bytes}
use Rattle.ls_board.specs.declared.action.BoardFault.{BoardFault}
use Rattle.ls_board.specs.declared.action.BoardFault.TheVariants.{Failed, Memory}
use Rattle.ls_board.specs.declared.world.World.{World}
use Rattle.ls_board.specs.Acts.{Sight, Acts, Readies}
use Rattle.ls_bytes.specs.declared.memory.Memory.{Memory as NoMemory}
use Rattle.ls_script.specs.declared.reply.Reply.{Reply}
use Rattle.ls_tape.specs.Tape.{drawn}
use Rattle.ls_vault.specs.declared.state.State.{State}
use Rattle.ls_vault.specs.Script.{Stage}
use Rattle.ls_turn.specs.declared.session.Session.{Session}
use Rattle.ls_turn.specs.declared.stop.Stop.{Stop}
use Rattle.ls_turn.specs.declared.stop.Stop.TheVariants as stop
use Rattle.ls_turn.specs.Serving.{Turned, Serves, stage_in, stopped_by}
use Rattle.ls_turn.proofs.BehindLemmas.{KeepsSession, keeps_room, keeps_then, keeps_taking, taking_failed, taking_lacked, behind}
use Rattle.ls_turn.proofs.StillLemmas.{HasKept, lacking}
use Rattle.ls_drawing.specs.Drawing.{Draws, IsDrawing, stop_of}

-- the turn, from the moments and the noise of a world that was met before
abbrev pub turn_from : World → (Stage → Turned) → Stage → Turned
turn_from w turn at = turn (stage_in w at.state)

-- there was no room
pub draws_no_room : (len : ℕ) (old mid : Sight) (made : Result (Unit {0}) NoMemory) → Readies old 1 0 made mid → Draws len old (Err Memory) mid
draws_no_room len old mid made room = record { mid = mid; made = made; room = room; drawing = inr (refl, refl) }

-- ---- what it keeps

module _ (len : ℕ) (old new : Sight) where
  module _ (bytes : List ℕ) (d : Draws len old (Ok bytes) new) where
    -- all that a session knows
    pub drawn_kept : KeepsSession old new
    drawn_kept = keeps_then old d.mid new (keeps_room old d.mid 1 0 d.made d.room) (keeps_taking d.mid new (Draw len) Bytes bytes tt d.drawing)

    same_world : d.mid.world ≡ old.world
    same_world = ap (λ (s : Sight). s.world) d.room.same

    told_then : IsTrue old.told → IsTrue d.mid.told
    told_then told = subst (λ (b : Bool). IsTrue b) (sym (ap (λ (s : Sight). s.told) d.room.same)) told

    -- these are the bytes, and so much of the noise is taken
    pub drawn_are : IsTrue old.told → (bytes ≡ drawn old.world.noise len) × (new.world ≡ record old.world { noise = drop len old.world.noise })
    drawn_are told =
        let done = (d.drawing.moves (told_then told)).done in (
          done.0.1 ∙ ap (λ (w : World). drawn w.noise len) same_world,
          done.1 ∙ ap (λ (w : World). record w { noise = drop len w.noise }) same_world,
        )

    pub drawn_len : length bytes ≡ len
    drawn_len = d.drawing.shape.1

  -- a session stops that can't draw
  module _ (x y : Session) (turn : Stage → Turned) (fair : World → State → Type 0) (k : HasKept x y) where
    stop_acts : (mid : Sight) (fault : BoardFault) → Acts mid (Draw len) (Err fault) [] new → y.stopped ≡ stopped_by (stop_of fault) x.stopped
        → Serves mid x (turn_from old.world turn) fair (Err (stop_of fault)) y new
    stop_acts mid (Failed part) acts stopped = taking_failed mid new x y (turn_from old.world turn) fair k.slots k.boot (Draw len) part [] tt acts stopped
    stop_acts mid Memory acts stopped = taking_lacked mid new x y (turn_from old.world turn) fair k.slots k.boot (Draw len) [] tt acts stopped

    stop_mid : (mid : Sight) (fault : BoardFault) → IsDrawing len mid (Err fault) new → y.stopped ≡ stopped_by (stop_of fault) x.stopped
        → Serves mid x (turn_from old.world turn) fair (Err (stop_of fault)) y new
    stop_mid mid fault (inl acts) stopped = stop_acts mid fault acts stopped
    stop_mid mid fault (inr none) stopped = none_drawn fault none.0 stopped
      where
        none_drawn : (f : BoardFault) → f ≡ Memory → y.stopped ≡ stopped_by (stop_of f) x.stopped → Serves mid x (turn_from old.world turn) fair (Err (stop_of f)) y new
        none_drawn (Failed part) is stopped = absurd (cc)
        none_drawn Memory is stopped = subst (λ (s : Sight). Serves mid x (turn_from old.world turn) fair (Err stop.Memory) y s) (sym none.1) (lacking mid x y (turn_from old.world turn) fair k stopped)

    pub draw_stops : (fault : BoardFault) → Draws len old (Err fault) new → y.stopped ≡ stopped_by (stop_of fault) x.stopped
        → Serves old x turn fair (Err (stop_of fault)) y new
    draw_stops fault d stopped =
        behind old d.mid new x y turn (turn_from old.world turn) fair (Err (stop_of fault)) (keeps_room old d.mid 1 0 d.made d.room)
        (λ told s agrees. refl) (stop_mid d.mid fault d.drawing stopped)

  -- a command that goes on behind it
  pub draw_goes_on : (bytes : List ℕ) → Draws len old (Ok bytes) new → (x y : Session) (turn : Stage → Turned) (fair : World → State → Type 0) (result : Result Reply Stop) (end : Sight)
      → Serves new x (turn_from old.world turn) fair result y end → Serves old x turn fair result y end
  draw_goes_on bytes d x y turn fair result end serves =
      behind old new end x y turn (turn_from old.world turn) fair result (drawn_kept bytes d) (λ told s agrees. refl) serves
