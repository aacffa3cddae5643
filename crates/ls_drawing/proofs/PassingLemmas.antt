-- Calls that a command makes before it changes what is stored: drawing and reading, one behind another.
use Rattle.std.proofs.Common.{◌≡◌, ◌⊎◌, inl, inr, ⊎_elim, ℕ, IsTrue, List, [], Bool, refl, sym, ◌∙◌, ap, subst}
use Rattle.std.specs.Prelude.{Result, Ok, Err}
use Rattle.ls_board.specs.declared.action.BoardFault.{BoardFault}
use Rattle.ls_board.specs.declared.action.BoardFault.TheVariants.{Failed, Memory}
use Rattle.ls_board.specs.declared.world.World.{World}
use Rattle.ls_board.specs.declared.action.Action.TheVariants.{Draw}
use Rattle.ls_board.specs.declared.action.Answer.{Answer}
use Rattle.ls_board.specs.Acts.{Sight, Acts, Readies}
use Rattle.ls_board.specs.Images.{Within}
use Rattle.ls_board.proofs.StepLemmas.{stays}
use Rattle.ls_drawing.specs.Drawing.{Draws, IsDrawing, stop_of}
use Rattle.ls_drawing.proofs.DrawLemmas.{drawn_kept, draw_stops}
use Rattle.ls_reading.specs.Reading.{Reads}
use Rattle.ls_turn.specs.declared.session.Session.{Session}
use Rattle.ls_turn.specs.Serving.{Always, stage_in, stopped_by}
use Rattle.ls_turn.proofs.BehindLemmas.{KeepsSession, keeps_none, keeps_reading, reading_failed, reading_lacked, behind}
use Rattle.ls_turn.proofs.StillLemmas.{HasKept, lacking}
use Rattle.ls_turn.proofs.StoredLemmas.{stored_can, draw_stores}
use Rattle.ls_drawing.specs.Passing.{GoesOn, StopsBy, Passes, IsStored}

abbrev stopped : Session → BoardFault → Session
stopped x fault = record x { stopped = stopped_by (stop_of fault) x.stopped }

kept_but : (x : Session) (fault : BoardFault) → HasKept x (stopped x fault)
kept_but x fault = record { slots = refl; boot = refl; settings = refl; named = refl; retired = refl }

pub goes_kept : (old new : Sight) → KeepsSession old new → GoesOn old new
goes_kept old new kept = record {
  told = kept.told;
  slots = kept.slots;
  serves = λ x y turn result end serves. behind old new end x y turn (λ at. turn (stage_in old.world at.state)) Always result kept (λ told s agrees. refl) serves;
  can = λ x can. stored_can old new x kept.told kept.slots kept.storage can;
}

pub goes_none : (s : Sight) → GoesOn s s
goes_none s = goes_kept s s (keeps_none s)

-- ---- what is stored

stored_same : (old new : World) → new ≡ old → IsStored old new
stored_same old new same = (λ i. record (same i) { touched = new.touched; input = new.input; said = new.said; moments = new.moments; noise = new.noise })

stored_both : (a b c : World) → IsStored a b → IsStored b c → IsStored a c
stored_both a b c one two = two ∙ ap (λ (z : World). record z { touched = c.touched; input = c.input; said = c.said; moments = c.moments; noise = c.noise }) one

-- ---- no call

pub passes_none : {T : Type 0} (t : T) (s : Sight) → Passes s (Ok t) s
passes_none t s = record { goes = goes_none s; stops = tt; stored = λ told. refl }

pub passes_lacking : {T : Type 0} (s : Sight) → Passes {T = T} s (Err Memory) s
passes_lacking s = record { goes = tt; stops = λ x turn. lacking s x (stopped x Memory) turn Always (kept_but x Memory) refl; stored = λ told. refl }

-- ---- a drawing

pub goes_drawn : (len : ℕ) (old new : Sight) (bytes : List ℕ) → Draws len old (Ok bytes) new → GoesOn old new
goes_drawn len old new bytes d = goes_kept old new (drawn_kept len old new bytes d)

pub stops_drawing : (len : ℕ) (old new : Sight) (fault : BoardFault) → Draws len old (Err fault) new → StopsBy old fault new
stops_drawing len old new fault d x turn = draw_stops len old new x (stopped x fault) turn Always (kept_but x fault) fault d refl

module _ (len : ℕ) (old new : Sight) where
  room_same : (mid : Sight) {E : Type 0} (made : Result (Unit {0}) E) → Readies old 1 0 made mid → mid.world ≡ old.world
  room_same mid made room = ap (λ (s : Sight). s.world) room.same

  pub stored_drawn : (bytes : List ℕ) → Draws len old (Ok bytes) new → IsTrue old.told → IsStored old.world new.world
  stored_drawn bytes d told = ((drawn_kept len old new bytes d).storage told).is

  acts_stored : (mid : Sight) (result : Result Answer BoardFault) (out : List ℕ) → Acts mid (Draw len) result out new → IsTrue mid.told → IsStored mid.world new.world
  acts_stored mid result out acts told =
      ⊎_elim (λ (some : Within mid.world (Draw len) new.world). (draw_stores mid.world new.world len some).is)
      (λ (same : new.world ≡ mid.world). stored_same mid.world new.world same) (stays mid (Draw len) result out new (acts.moves told))

  pub drawing_stored : (mid : Sight) (fault : BoardFault) → IsDrawing len mid (Err fault) new → IsTrue mid.told → IsStored mid.world new.world
  drawing_stored mid fault (inl acts) told = acts_stored mid (Err fault) [] acts told
  drawing_stored mid fault (inr none) told = stored_same mid.world new.world (ap (λ (s : Sight). s.world) none.1)

  pub passes_drawing : {T : Type 0} (fault : BoardFault) → Draws len old (Err fault) new → Passes {T = T} old (Err fault) new
  passes_drawing fault d = record {
    goes = tt;
    stops = stops_drawing len old new fault d;
    stored = λ told. subst (λ (w : World). IsStored w new.world) (ap (λ (s : Sight). s.world) d.room.same)
        (drawing_stored d.mid fault d.drawing (subst (λ (b : Bool). IsTrue b) (sym (ap (λ (s : Sight). s.told) d.room.same)) told));
  }

-- ---- a reading

stops_reading : {T : Type 0} (P : World → T → Type 0) (old new : Sight) (fault : BoardFault) → Reads P old (Err fault) new → StopsBy old fault new
stops_reading P old new (Failed part) reads x turn = reading_failed old new x (stopped x (Failed part)) turn Always refl refl P part reads refl
stops_reading P old new Memory reads x turn = reading_lacked old new x (stopped x Memory) turn Always refl refl P reads refl

pub passes_reading : {T : Type 0} (P : World → T → Type 0) (old new : Sight) (result : Result T BoardFault) → Reads P old result new → Passes old result new
passes_reading P old new (Ok t) reads = record { goes = goes_kept old new (keeps_reading P old new t reads); stops = tt; stored = λ told. stored_same old.world new.world (reads.same told) }
passes_reading P old new (Err fault) reads = record { goes = tt; stops = stops_reading P old new fault reads; stored = λ told. stored_same old.world new.world (reads.same told) }

-- ---- one behind another

pub goes_then : (a b c : Sight) → GoesOn a b → GoesOn b c → GoesOn a c
goes_then a b c one two = record {
  told = two.told ∙ one.told;
  slots = two.slots ∙ one.slots;
  serves = λ x y turn result end serves. one.serves x y turn result end (two.serves x y (λ at. turn (stage_in a.world at.state)) result end serves);
  can = λ x can. two.can x (one.can x can);
}

pub stops_then : (a b c : Sight) (fault : BoardFault) → GoesOn a b → StopsBy b fault c → StopsBy a fault c
stops_then a b c fault one stops x turn = one.serves x (stopped x fault) turn (Err (stop_of fault)) c (stops x (λ at. turn (stage_in a.world at.state)))

still_told : (a b : Sight) → GoesOn a b → IsTrue a.told → IsTrue b.told
still_told a b one told = subst (λ (d : Bool). IsTrue d) (sym one.told) told

module _ {T : Type 0} (a b : Sight) (one : GoesOn a b) (was : IsTrue a.told → IsStored a.world b.world) where
  pub passes_then : (c : Sight) (result : Result T BoardFault) → Passes b result c → Passes a result c
  passes_then c (Ok t) two = record { goes = goes_then a b c one two.goes; stops = tt; stored = λ told. stored_both a.world b.world c.world (was told) (two.stored (still_told a b one told)) }
  passes_then c (Err fault) two = record { goes = tt; stops = stops_then a b c fault one two.stops; stored = λ told. stored_both a.world b.world c.world (was told) (two.stored (still_told a b one told)) }

-- the same calls, with another answer
pub passes_as : {T U : Type 0} (a b : Sight) (t : T) (u : U) → Passes a (Ok t) b → Passes a (Ok u) b
passes_as a b t u one = record { goes = one.goes; stops = tt; stored = one.stored }

pub passes_err : {T U : Type 0} (a b : Sight) (fault : BoardFault) → Passes {T = T} a (Err fault) b → Passes {T = U} a (Err fault) b
passes_err a b fault one = record { goes = tt; stops = one.stops; stored = one.stored }
