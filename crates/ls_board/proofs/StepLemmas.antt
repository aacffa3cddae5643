-- How the definitions of one action hang together.
use Rattle.std.proofs.Common.{◌≡◌, ◌≢◌, ◌⊎◌, inl, inr, ⊎_elim, ℕ, true, false, List, [], ◌∷◌, ◌++◌, length, Option, None, Some, refl, sym, ap, subst, arith}
use Rattle.std.specs.Prelude.{Result, Ok, Err}
use Rattle.std.specs.FinMap.Entries.{where_key}
use Rattle.std.proofs.lemmas.List.{take_all}
use Rattle.ls_board.specs.declared.action.Action.{Action}
use Rattle.ls_board.specs.declared.action.Action.TheVariants.{List as ListNames, Read, Make, Put, Poke, Remove, Sync, WeaverWrite, WeaverRead, GkSign, GkEnroll, GkVerify, GkForget, GkList, KeyPut, KeyOpen, KeyDrop, KeyList, ResumeStore, ResumeTake, Hear, Say, Now, Draw}
use Rattle.ls_board.specs.declared.action.Answer.{Answer}
use Rattle.ls_board.specs.declared.action.Answer.TheVariants.{Bytes}
use Rattle.ls_board.specs.declared.action.BoardFault.{BoardFault}
use Rattle.ls_board.specs.declared.action.BoardFault.TheVariants.{Failed, Memory}
use Rattle.ls_board.specs.declared.touch.Touch.{Touch}
use Rattle.ls_board.specs.declared.touch.Touch.TheVariants.{Poked, Made, Other}
use Rattle.ls_board.specs.declared.touch.Span.{Span}
use Rattle.ls_board.specs.declared.world.World.{World}
use Rattle.ls_board.specs.Order.{byte_cmp}
use Rattle.ls_board.specs.Effect.{Mark, after, Answers, HasShape, MayLack, marked}
use Rattle.ls_board.specs.Images.{PokedFrom, MayHold, Within, MarkWithin, LeavesWithin, LeavesWithinCall, changing}
use Rattle.ls_board.specs.Planned.{IsPlanned}
use Rattle.ls_board.specs.Acts.{Sight, Moves}

pub poked_same : (spans : List Span) (now : Option (List ℕ)) → PokedFrom spans now now
poked_same spans None = tt
poked_same spans (Some now) = record { long = refl; kept = λ i out. refl }

-- a file may be left as it reads
pub holds_same : (touch : Option Touch) (now : Option (List ℕ)) → MayHold touch now now
holds_same None now = refl
holds_same (Some (Poked spans)) now = poked_same spans now
holds_same (Some (Made before)) now = inl refl
holds_same (Some Other) now = tt

pub where_all : {X : Type 0} (rows : List (List ℕ × X)) → where_key byte_cmp (λ n. true) rows ≡ rows
where_all [] = refl
where_all {X = X} (r ∷ rows) = ap (λ (rest : List (List ℕ × X)). r ∷ rest) (where_all rows)

pub where_none : {X : Type 0} (rows : List (List ℕ × X)) → where_key byte_cmp (λ n. false) rows ≡ []
where_none [] = refl
where_none (r ∷ rows) = where_none rows

pub whole_mark : (w : World) (m : Mark) → MarkWithin w m (marked w m)
whole_mark w m = record { content = m.content; holds = holds_same (Some m.own) m.content; is = refl }

-- a whole action is one that had some of its effect; of a `Hear`, none
pub whole_within : (w : World) (a : Action) → Within w a (after w a 0)
whole_within w ListNames = refl
whole_within w (Read n) = refl
whole_within w (Make n len) = whole_mark w _
whole_within w (Put n bytes) = whole_mark w _
whole_within w (Poke n at bytes) = whole_mark w _
whole_within w (Remove n) = whole_mark w _
whole_within w Sync = record { still = λ n. false; is = ap (λ (rows : List (List ℕ × Touch)). record w { touched = rows }) (sym (where_none w.touched)) }
whole_within w (WeaverWrite slot key value) = inr refl
whole_within w (WeaverRead slot key moment) = inr refl
whole_within w (GkSign sid salt password) = refl
whole_within w (GkEnroll sid) = inr refl
whole_within w (GkVerify handle password moment) = inr refl
whole_within w (GkForget sid) = inr refl
whole_within w GkList = refl
whole_within w (KeyPut alias key) = inr refl
whole_within w (KeyOpen alias bytes) = refl
whole_within w (KeyDrop alias) = inr refl
whole_within w KeyList = refl
whole_within w (ResumeStore key) = inr refl
whole_within w ResumeTake = inr refl
whole_within w (Hear max) = record { taken = 0; few = omega arith; is = refl }
whole_within w (Say bytes) = record { told = length bytes; is = ap (λ (said : List ℕ). record w { said = w.said ++ said }) (sym (take_all (length bytes) bytes (omega arith))) }
whole_within w Now = inr refl
whole_within w (Draw len) = record { taken = len; few = omega arith; is = refl }

-- and with the bytes that were heard
pub done_within : (w : World) (a : Action) (answer : Answer) (out : List ℕ) → Answers w a answer out → Within w a (after w a (length out))
done_within w (Hear max) answer out (inl ended) = record { taken = length out; few = omega (arith, ap length ended.2); is = refl }
done_within w (Hear max) answer out (inr heard) = record { taken = length out; few = heard.2; is = refl }
done_within w a answer out answers = whole_within w a

-- only a `Hear` reads the count
pub planned_count : (w : World) (a : Action) (count : ℕ) → IsPlanned a → after w a count ≡ after w a 0
planned_count w (Hear max) count planned = absurd planned
planned_count w a count planned = refl

-- a planned action never lacks memory
pub not_lacking : (a : Action) → IsPlanned a → MayLack a → ⊥
not_lacking ListNames planned lack = planned
not_lacking (Read n) planned lack = planned
not_lacking GkList planned lack = planned
not_lacking (KeyOpen alias bytes) planned lack = planned
not_lacking KeyList planned lack = planned
not_lacking (Hear max) planned lack = planned
not_lacking (Draw len) planned lack = planned
not_lacking a planned lack = lack

-- a crash within a call leaves what one within the action does
pub within_call : (w : World) (a : Action) (image : World) → LeavesWithinCall w (changing a) image → LeavesWithin w a image
within_call w ListNames image left = (w, refl, left)
within_call w (Read n) image left = (w, refl, left)
within_call w (GkSign sid salt password) image left = (w, refl, left)
within_call w GkList image left = (w, refl, left)
within_call w (KeyOpen alias bytes) image left = (w, refl, left)
within_call w KeyList image left = (w, refl, left)
within_call w a image left = left

-- however a call ended, the world is within the action, or as it was
pub stays : (old : Sight) (a : Action) (result : Result Answer BoardFault) (out : List ℕ) (new : Sight) → Moves old a result out new → Within old.world a new.world ⊎ (new.world ≡ old.world)
stays old a (Ok answer) out new m = inl (subst (Within old.world a) (sym m.done.1) (done_within old.world a answer out m.done.0))
stays old a (Err (Failed p)) out new m = inl (m.failed p refl)
stays old a (Err Memory) out new m = inr (m.lacking refl)

-- ---- an answer without bytes

bytes_there : (answer : Answer) (out : List ℕ) → answer ≡ Bytes → answer ≢ Bytes → out ≡ []
bytes_there answer out is apart = absurd (apart is)

-- an answer that isn't Bytes comes with none
pub no_bytes : (a : Action) (answer : Answer) (out : List ℕ) → HasShape a answer out → answer ≢ Bytes → out ≡ []
no_bytes ListNames answer out shape apart = bytes_there answer out shape.0 apart
no_bytes (Read n) answer out shape apart = ⊎_elim (λ absent. absent.1) (λ is. bytes_there answer out is apart) shape
no_bytes GkList answer out shape apart = bytes_there answer out shape.0 apart
no_bytes (KeyOpen alias bytes) answer out shape apart = ⊎_elim (λ none. none.1) (λ rest. ⊎_elim (λ bad. bad.1) (λ is. bytes_there answer out is apart) rest) shape
no_bytes KeyList answer out shape apart = bytes_there answer out shape.0 apart
no_bytes (Hear max) answer out shape apart = ⊎_elim (λ ended. ended.1) (λ heard. bytes_there answer out heard.0 apart) shape
no_bytes (Draw len) answer out shape apart = bytes_there answer out shape.0 apart
no_bytes a answer out shape apart = shape.1
