-- Calls that reach no more than some of the storage.
use Rattle.std.proofs.Common.{◌≡◌, IsTrue, ℕ, List, [], ◌∷◌, ◌++◌, Option, Some, append_assoc, refl, sym, ◌∙◌, ap, subst}
use Rattle.std.specs.Prelude.{Result}
use Rattle.std.specs.List.{AllByRecursion}
use Rattle.ls_board.specs.declared.action.Action.{Action}
use Rattle.ls_board.specs.declared.action.Action.TheVariants.{Hear, Say, Now, Draw}
use Rattle.ls_board.specs.declared.action.Answer.{Answer}
use Rattle.ls_board.specs.declared.action.BoardFault.{BoardFault}
use Rattle.ls_board.specs.declared.action.Part.{Part}
use Rattle.ls_board.specs.declared.world.World.{World}
use Rattle.ls_board.specs.Acts.{Sight, Moves, Readies}
use Rattle.ls_board.specs.Calls.{CallTouchesOnly, CallsTouchOnly}
use Rattle.ls_board.specs.Effect.{after}
use Rattle.ls_board.specs.Images.{changing}
use Rattle.ls_board.specs.Reach.{Reach, TouchesOnly, AllTouchOnly}
use Rattle.ls_board.specs.Runs.{after_all, past_of, Did, FailedIn}

abbrev Calls : Type 0
Calls = List (World × Option Action)

-- ---- in a row

pub calls_none : (reach : Reach) (s : Sight) → CallsTouchOnly reach s s
calls_none reach s = record { calls = []; since = refl; each = tt }

each_append : (reach : Reach) (xs ys : Calls) → AllByRecursion (CallTouchesOnly reach) xs → AllByRecursion (CallTouchesOnly reach) ys → AllByRecursion (CallTouchesOnly reach) (xs ++ ys)
each_append reach [] ys first second = second
each_append reach (x ∷ xs) ys first second = (first.0, each_append reach xs ys first.1 second)

pub calls_both : (reach : Reach) (s0 s1 s2 : Sight) → CallsTouchOnly reach s0 s1 → CallsTouchOnly reach s1 s2 → CallsTouchOnly reach s0 s2
calls_both reach s0 s1 s2 one two = record {
  calls = two.calls ++ one.calls;
  since = two.since ∙ ap (λ (l : Calls). two.calls ++ l) one.since ∙ sym (append_assoc two.calls one.calls s0.past);
  each = each_append reach two.calls one.calls two.each one.each;
}

-- more room
pub calls_ready : (reach : Reach) (old new : Sight) {E : Type 0} (actions bytes : ℕ) (result : Result (Unit {0}) E) → Readies old actions bytes result new → CallsTouchOnly reach old new
calls_ready reach old new actions bytes result room = record { calls = []; since = ap (λ (s : Sight). s.past) room.same; each = tt }

-- ---- a call

pub call_touches : (reach : Reach) (w : World) (a : Action) → TouchesOnly reach a → CallTouchesOnly reach (w, changing a)
call_touches reach w (Hear max) only = absurd only
call_touches reach w (Say bytes) only = absurd only
call_touches reach w Now only = absurd only
call_touches reach w (Draw len) only = absurd only
call_touches reach w a only = only

pub calls_act : (reach : Reach) (old new : Sight) (a : Action) (result : Result Answer BoardFault) (out : List ℕ) → TouchesOnly reach a → Moves old a result out new → CallsTouchOnly reach old new
calls_act reach old new a result out only moves = record {
  calls = (old.world, changing a) ∷ [];
  since = moves.past;
  each = (call_touches reach old.world a only, tt);
}

-- ---- a plan

-- with the calls of these actions behind those before
pub calls_past : (reach : Reach) (actions : List Action) (w : World) (s t : Sight) → AllTouchOnly reach actions → t.past ≡ past_of w actions s.past → CallsTouchOnly reach s t
calls_past reach [] w s t only is = record { calls = []; since = is; each = tt }
calls_past reach (a ∷ actions) w s t only is =
    let mid : Sight = record s { past = (w, changing a) ∷ s.past } in
    calls_both reach s mid t
    (record { calls = (w, changing a) ∷ []; since = refl; each = (call_touches reach w a only.0, tt) })
    (calls_past reach actions (after w a 0) mid t only.1 is)

pub calls_did : (reach : Reach) (old new : Sight) (plan : List Action) → AllTouchOnly reach plan → Did old plan new → IsTrue old.told → CallsTouchOnly reach old new
calls_did reach old new plan only did told = calls_past reach plan old.world old new only (did.past told)

only_front : (reach : Reach) (xs ys : List Action) → AllTouchOnly reach (xs ++ ys) → AllTouchOnly reach xs
only_front reach [] ys only = tt
only_front reach (a ∷ xs) ys only = (only.0, only_front reach xs ys only.1)

only_rest : (reach : Reach) (xs ys : List Action) → AllTouchOnly reach (xs ++ ys) → AllTouchOnly reach ys
only_rest reach [] ys only = only
only_rest reach (a ∷ xs) ys only = only_rest reach xs ys only.1

-- a plan of which an action failed
pub calls_failed : (reach : Reach) (old new : Sight) (plan : List Action) (part : Part) → AllTouchOnly reach plan → FailedIn old plan part new → IsTrue old.told → CallsTouchOnly reach old new
calls_failed reach old new plan part only f told =
    let both = subst (AllTouchOnly reach) f.splits only in
    let mid : Sight = record old { past = past_of old.world f.done old.past } in
    calls_both reach old mid new
    (calls_past reach f.done old.world old mid (only_front reach f.done (f.failing ∷ f.left) both) refl)
    (record {
      calls = (after_all old.world f.done, changing f.failing) ∷ [];
      since = f.failed.past told;
      each = (call_touches reach (after_all old.world f.done) f.failing (only_rest reach f.done (f.failing ∷ f.left) both).0, tt);
    })
