-- Calls that neither hear nor say.
use Rattle.std.proofs.Common.{◌≡◌, inl, inr, ℕ, zero, suc, replicate, List, [], ◌∷◌, ◌++◌, Option, None, Some, IsTrue, refl, sym, ◌∙◌, ap, subst}
use Rattle.std.specs.Prelude.{Result}
use Rattle.std.specs.List.{AllByRecursion}
use Rattle.ls_board.specs.declared.action.Action.{Action}
use Rattle.ls_board.specs.declared.action.Action.TheVariants.{WeaverRead, GkVerify, Hear, Say}
use Rattle.ls_board.specs.declared.action.Answer.{Answer}
use Rattle.ls_board.specs.declared.action.BoardFault.{BoardFault}
use Rattle.ls_board.specs.declared.world.World.{World}
use Rattle.ls_board.specs.Acts.{Sight, Moves}
use Rattle.ls_board.specs.Acts as acts
use Rattle.ls_board.specs.Calls.{CallTouchesOnly, CallsTouchOnly}
use Rattle.ls_board.specs.Effect.{after}
use Rattle.ls_board.specs.Images.{changing}
use Rattle.ls_board.specs.Reach.{Reach, TouchesOnly, AllTouchOnly}
use Rattle.ls_board.specs.declared.action.Part.{Part}
use Rattle.ls_board.specs.Runs.{after_all, past_of, FailedIn}
use Rattle.ls_chain.specs.Calling.{ReadsOrAsks, CallsAtMost}
use Rattle.ls_reading.specs.Reading.{OnlyReads}
use Rattle.ls_serving.specs.Turns.{IsInside, StaysInside}
use Rattle.ls_serving.proofs.TurnLemmas.{inside-trans}

-- ---- no call and one call

-- no call was made
pub idle_inside : (old new : Sight) → new.past ≡ old.past → StaysInside old new
idle_inside old new is = record { calls = []; since = is; each = tt }

-- room was made, or none was there
pub room_inside : {E : Type 0} (old new : Sight) (actions bytes : ℕ) (result : Result (Unit {0}) E) → acts.Readies old actions bytes result new → StaysInside old new
room_inside old new actions bytes result room = idle_inside old new (ap (λ (s : Sight). s.past) room.same)

-- the action is no hearing and no saying
abbrev pub IsMute : Action → Type 0
IsMute a = (w : World) → IsInside (w, changing a)

-- one call of such an action, whatever it answers
pub call_inside : (old new : Sight) (a : Action) (result : Result Answer BoardFault) (out : List ℕ) → IsMute a → Moves old a result out new → StaysInside old new
call_inside old new a result out mute m = record { calls = (old.world, changing a) ∷ []; since = m.past; each = (mute old.world, tt) }

-- ---- plans

-- what only reaches storage
pub touching_is_mute : (reach : Reach) (a : Action) → TouchesOnly reach a → IsMute a
touching_is_mute reach (Hear max) only = absurd only
touching_is_mute reach (Say bytes) only = absurd only
touching_is_mute reach a only = λ w. record { no_hear = λ max is. cc; no_say = λ bytes is. cc }

pub all_mute : (reach : Reach) (actions : List Action) → AllTouchOnly reach actions → AllByRecursion IsMute actions
all_mute reach [] only = tt
all_mute reach (a ∷ actions) only = (touching_is_mute reach a only.0, all_mute reach actions only.1)

pub mute_append : (xs ys : List Action) → AllByRecursion IsMute xs → AllByRecursion IsMute ys → AllByRecursion IsMute (xs ++ ys)
mute_append [] ys first second = second
mute_append (a ∷ xs) ys first second = (first.0, mute_append xs ys first.1 second)

-- calls of such actions in a row
pub plan_inside : (actions : List Action) (w : World) (s t : Sight) → AllByRecursion IsMute actions → t.past ≡ past_of w actions s.past → StaysInside s t
plan_inside [] w s t mute is = record { calls = []; since = is; each = tt }
plan_inside (a ∷ actions) w s t mute is =
    let mid : Sight = record s { past = (w, changing a) ∷ s.past } in
    inside-trans s mid t
    (record { calls = (w, changing a) ∷ []; since = refl; each = (mute.0 w, tt) })
    (plan_inside actions (after w a 0) mid t mute.1 is)

mute_front : (xs ys : List Action) → AllByRecursion IsMute (xs ++ ys) → AllByRecursion IsMute xs
mute_front [] ys mute = tt
mute_front (a ∷ xs) ys mute = (mute.0, mute_front xs ys mute.1)

mute_rest : (xs ys : List Action) → AllByRecursion IsMute (xs ++ ys) → AllByRecursion IsMute ys
mute_rest [] ys mute = mute
mute_rest (a ∷ xs) ys mute = mute_rest xs ys mute.1

-- calls of a plan of which an action failed
pub failed_inside : (plan : List Action) (part : Part) (s t : Sight) → AllByRecursion IsMute plan → FailedIn s plan part t → IsTrue s.told → StaysInside s t
failed_inside plan part s t mute f told =
    let both = subst (λ (l : List Action). AllByRecursion IsMute l) f.splits mute in
    let mid : Sight = record s { past = past_of s.world f.done s.past } in
    inside-trans s mid t
    (plan_inside f.done s.world s mid (mute_front f.done (f.failing ∷ f.left) both) refl)
    (record {
      calls = (after_all s.world f.done, changing f.failing) ∷ [];
      since = f.failed.past told;
      each = ((mute_rest f.done (f.failing ∷ f.left) both).0 (after_all s.world f.done), tt);
    })

-- ---- storage

-- calls that reach no more than storage
reaching_inside : (reach : Reach) (w : World) (call : Option Action) → CallTouchesOnly reach (w, call) → IsInside (w, call)
reaching_inside reach w None only = record { no_hear = λ max is. cc; no_say = λ bytes is. cc }
reaching_inside reach w (Some (Hear max)) only = absurd only
reaching_inside reach w (Some (Say bytes)) only = absurd only
reaching_inside reach w (Some a) only = record { no_hear = λ max is. cc; no_say = λ bytes is. cc }

all_inside : (reach : Reach) (calls : List (World × Option Action)) → AllByRecursion (CallTouchesOnly reach) calls → AllByRecursion IsInside calls
all_inside reach [] each = tt
all_inside reach (call ∷ calls) each = (reaching_inside reach call.0 call.1 each.0, all_inside reach calls each.1)

pub reach_inside : (reach : Reach) (old new : Sight) → CallsTouchOnly reach old new → StaysInside old new
reach_inside reach old new c = record { calls = c.calls; since = c.since; each = all_inside reach c.calls c.each }

-- ---- readings

reads_each : (w : World) (n : ℕ) → AllByRecursion IsInside (replicate n (w, None))
reads_each w zero = tt
reads_each w (suc n) = (record { no_hear = λ max is. cc; no_say = λ bytes is. cc }, reads_each w n)

-- calls that only read
pub reads_inside : (old new : Sight) → OnlyReads old new → StaysInside old new
reads_inside old new only = record { calls = replicate only.count (old.world, None); since = only.past; each = reads_each old.world only.count }

-- ---- calls of a chain

-- what is asked is no hearing and no saying
abbrev pub IsMuteAsk : Option Action → Type 0
IsMuteAsk ask = (w : World) → IsInside (w, ask)

-- nothing is asked
pub nothing_mute : IsMuteAsk None
nothing_mute w = record { no_hear = λ max is. cc; no_say = λ bytes is. cc }

pub verify_mute : (handle password : List ℕ) (moment : ℕ) → IsMuteAsk (Some (GkVerify handle password moment))
verify_mute handle password moment w = record { no_hear = λ max is. cc; no_say = λ bytes is. cc }

pub weaver_mute : (slot : ℕ) (key : List ℕ) (moment : ℕ) → IsMuteAsk (Some (WeaverRead slot key moment))
weaver_mute slot key moment w = record { no_hear = λ max is. cc; no_say = λ bytes is. cc }

asked_call : (ask : Option Action) → IsMuteAsk ask → (call : World × Option Action) → ReadsOrAsks ask call → IsInside call
asked_call ask mute call (inl reads) = record {
  no_hear = λ max is. (nothing_mute call.0).no_hear max (sym reads ∙ is);
  no_say = λ bytes is. (nothing_mute call.0).no_say bytes (sym reads ∙ is);
}
asked_call ask mute call (inr asks) = record {
  no_hear = λ max is. (mute call.0).no_hear max (sym asks ∙ is);
  no_say = λ bytes is. (mute call.0).no_say bytes (sym asks ∙ is);
}

asked_each : (ask : Option Action) → IsMuteAsk ask → (calls : List (World × Option Action)) → AllByRecursion (ReadsOrAsks ask) calls → AllByRecursion IsInside calls
asked_each ask mute [] each = tt
asked_each ask mute (call ∷ calls) each = (asked_call ask mute call each.0, asked_each ask mute calls each.1)

-- calls that read, or ask this
pub asked_inside : (ask : Option Action) (old new : Sight) → IsMuteAsk ask → CallsAtMost ask old new → StaysInside old new
asked_inside ask old new mute c = record { calls = c.calls; since = c.since; each = asked_each ask mute c.calls c.each }

-- calls of a look
pub looked_inside : (old new : Sight) → CallsAtMost None old new → StaysInside old new
looked_inside old new c = asked_inside None old new nothing_mute c
