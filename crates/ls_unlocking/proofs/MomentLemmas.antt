-- A moment is taken for a command.
use Rattle.std.proofs.Common.{◌≡◌, inl, inr, ℕ, Bool, IsTrue, [], ◌∷◌, Some, refl, sym, ◌∙◌, ap, subst}
use Rattle.std.specs.Prelude.{Result, Ok, Err}
use Rattle.ls_board.specs.declared.action.Action.TheVariants.{Now}
use Rattle.ls_board.specs.declared.action.Answer.TheVariants.{Moment}
use Rattle.ls_board.specs.declared.action.BoardFault.{BoardFault}
use Rattle.ls_board.specs.declared.action.BoardFault.TheVariants.{Failed, Memory}
use Rattle.ls_board.specs.declared.world.World.{World}
use Rattle.ls_board.specs.Acts.{Sight, Acts, Readies}
use Rattle.ls_bytes.specs.declared.memory.Memory.{Memory as NoMemory}
use Rattle.ls_drawing.specs.Drawing.{stop_of}
use Rattle.ls_drawing.proofs.DrawLemmas.{turn_from}
use Rattle.ls_serving.specs.Met.{MetBetween}
use Rattle.ls_tape.specs.Tape.{next_moment, later_moments}
use Rattle.ls_turn.specs.declared.session.Session.{Session}
use Rattle.ls_turn.specs.declared.stop.Stop.TheVariants as stop
use Rattle.ls_turn.specs.Serving.{Turned, Serves, stopped_by}
use Rattle.ls_turn.proofs.BehindLemmas.{KeepsSession, keeps_room, keeps_then, keeps_taking, taking_failed, taking_lacked, behind}
use Rattle.ls_turn.proofs.StillLemmas.{HasKept, lacking}
use Rattle.ls_vault.specs.declared.state.State.{State}
use Rattle.ls_vault.specs.Script.{Stage}
use Rattle.ls_unlocking.specs.Moments.{Takes, IsTaking}

-- there was no room
pub takes_no_room : (old mid : Sight) (made : Result (Unit {0}) NoMemory) → Readies old 1 0 made mid → Takes old (Err Memory) mid
takes_no_room old mid made room = record { mid = mid; made = made; room = room; taking = inr (refl, refl) }

module _ (old new : Sight) where
  module _ (moment : ℕ) (t : Takes old (Ok moment) new) where
    -- all that a session knows
    pub moment_kept : KeepsSession old new
    moment_kept = keeps_then old t.mid new (keeps_room old t.mid 1 0 t.made t.room) (keeps_taking t.mid new Now (Moment moment) [] tt t.taking)

    same_world : t.mid.world ≡ old.world
    same_world = ap (λ (s : Sight). s.world) t.room.same

    told_then : IsTrue old.told → IsTrue t.mid.told
    told_then told = subst (λ (b : Bool). IsTrue b) (sym (ap (λ (s : Sight). s.told) t.room.same)) told

    same_moment : (m n : ℕ) → Moment m ≡ Moment n → m ≡ n
    same_moment m n e = cc

    -- it is the next one, and it is gone
    pub moment_is : IsTrue old.told → (moment ≡ next_moment old.world.moments) × (new.world ≡ record old.world { moments = later_moments old.world.moments })
    moment_is told =
        let done = (t.taking.moves (told_then told)).done in (
          same_moment moment (next_moment old.world.moments) (done.0.0 ∙ ap (λ (w : World). Moment (next_moment w.moments)) same_world),
          done.1 ∙ ap (λ (w : World). record w { moments = later_moments w.moments }) same_world,
        )

    -- the call met the world
    pub moment_met : IsTrue old.told → MetBetween old new old.world
    moment_met told = (
      (t.mid.world, Some Now) ∷ [],
      (t.taking.moves (told_then told)).past ∙ ap (λ (s : Sight). (t.mid.world, Some Now) ∷ s.past) t.room.same,
      inl (sym same_world),
    )

  -- a session stops that gets none
  module _ (x y : Session) (turn : Stage → Turned) (fair : World → State → Type 0) (k : HasKept x y) where
    stop_acts : (mid : Sight) (fault : BoardFault) → Acts mid Now (Err fault) [] new → y.stopped ≡ stopped_by (stop_of fault) x.stopped
        → Serves mid x (turn_from old.world turn) fair (Err (stop_of fault)) y new
    stop_acts mid (Failed part) acts stopped = taking_failed mid new x y (turn_from old.world turn) fair k.slots k.boot Now part [] tt acts stopped
    stop_acts mid Memory acts stopped = taking_lacked mid new x y (turn_from old.world turn) fair k.slots k.boot Now [] tt acts stopped

    stop_mid : (mid : Sight) (fault : BoardFault) → IsTaking mid (Err fault) new → y.stopped ≡ stopped_by (stop_of fault) x.stopped
        → Serves mid x (turn_from old.world turn) fair (Err (stop_of fault)) y new
    stop_mid mid fault (inl acts) stopped = stop_acts mid fault acts stopped
    stop_mid mid fault (inr none) stopped = none_taken fault none.0 stopped
      where
        none_taken : (f : BoardFault) → f ≡ Memory → y.stopped ≡ stopped_by (stop_of f) x.stopped → Serves mid x (turn_from old.world turn) fair (Err (stop_of f)) y new
        none_taken (Failed part) is stopped = absurd (cc)
        none_taken Memory is stopped = subst (λ (s : Sight). Serves mid x (turn_from old.world turn) fair (Err stop.Memory) y s) (sym none.1) (lacking mid x y (turn_from old.world turn) fair k stopped)

    pub moment_stops : (fault : BoardFault) → Takes old (Err fault) new → y.stopped ≡ stopped_by (stop_of fault) x.stopped → Serves old x turn fair (Err (stop_of fault)) y new
    moment_stops fault t stopped =
        behind old t.mid new x y turn (turn_from old.world turn) fair (Err (stop_of fault)) (keeps_room old t.mid 1 0 t.made t.room)
        (λ told s agrees. refl) (stop_mid t.mid fault t.taking stopped)
