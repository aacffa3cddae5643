-- Calls in turn.
use Rattle.std.proofs.Common.{◌≡◌, ◌++◌, ℕ, List, [], ◌∷◌, refl, sym, ◌∙◌, ap, subst, inl, inr, append_assoc}
use Rattle.std.specs.Prelude.{Option, Some}
use Rattle.std.specs.List.{AllByRecursion}
use Rattle.ls_board.specs.declared.action.Action.{Action}
use Rattle.ls_board.specs.declared.action.Action.TheVariants.{Sync, Hear, Say}
use Rattle.ls_board.specs.declared.world.World.{World}
use Rattle.ls_board.specs.Acts.{Sight}
use Rattle.ls_serving.specs.Calls.{Calls}
use Rattle.ls_serving.specs.Machine.{Machine}
use Rattle.ls_serving.specs.Met.{Extends}
use Rattle.ls_serving.specs.Turns.{IsInside, StaysInside, HearsInTurn, SaysInTurn, IsInTurn, CallsInTurn}

each-append : (P : World × Option Action → Type 0) (xs ys : List (World × Option Action)) → AllByRecursion P xs → AllByRecursion P ys → AllByRecursion P (xs ++ ys)
each-append P [] ys one two = two
each-append P (x ∷ xs) ys one two = (one.0, each-append P xs ys one.1 two)

-- ---- calls of a service

pub inside_extends : (old new : Sight) → StaysInside old new → Extends old new
inside_extends old new inside = (inside.calls, inside.since)

pub inside-refl : (s : Sight) → StaysInside s s
inside-refl s = record { calls = []; since = refl; each = tt }

pub inside-trans : (a b c : Sight) → StaysInside a b → StaysInside b c → StaysInside a c
inside-trans a b c one two = record {
  calls = two.calls ++ one.calls;
  since = two.since ∙ ap (λ l. two.calls ++ l) one.since ∙ sym (append_assoc two.calls one.calls a.past);
  each = each-append IsInside two.calls one.calls two.each one.each;
}

module _ (m : Machine) (start : Sight) (first : m.Stage) where
  turn_inside : (calls : List (World × Option Action)) → AllByRecursion IsInside calls → AllByRecursion (IsInTurn m start.world first) calls
  turn_inside [] each = tt
  turn_inside (call ∷ calls) each = (
    record { hears = λ max is. absurd (each.0.no_hear max is); says = λ bytes is. absurd (each.0.no_say bytes is) },
    turn_inside calls each.1,
  )

  -- before the first call
  pub turns_none : CallsInTurn m start start first
  turns_none = record { calls = []; since = refl; each = tt }

  pub turns_inside : (old new : Sight) → CallsInTurn m start old first → StaysInside old new → CallsInTurn m start new first
  turns_inside old new was inside = record {
    calls = inside.calls ++ was.calls;
    since = inside.since ∙ ap (λ l. inside.calls ++ l) was.since ∙ sym (append_assoc inside.calls was.calls start.past);
    each = each-append (IsInTurn m start.world first) inside.calls was.calls (turn_inside inside.calls inside.each) was.each;
  }

  -- ---- calls of the loop

  pub turns_call : (old new : Sight) (a : Action) → CallsInTurn m start old first → Calls old a new → IsInTurn m start.world first (old.world, Some a) → CallsInTurn m start new first
  turns_call old new a was (inl same) turn = record { calls = was.calls; since = same.0 ∙ was.since; each = was.each }
  turns_call old new a was (inr moved) turn = record {
    calls = (old.world, Some a) ∷ was.calls;
    since = moved.0 ∙ ap (λ l. (old.world, Some a) ∷ l) was.since;
    each = (turn, was.each);
  }

  same_max : (n k : ℕ) → ◌≡◌ {A = Option Action} (Some (Hear n)) (Some (Hear k)) → n ≡ k
  same_max n k is = cc

  same_bytes : (s t : List ℕ) → ◌≡◌ {A = Option Action} (Some (Say s)) (Some (Say t)) → s ≡ t
  same_bytes s t is = cc

  pub sync_turn : (met : World) → IsInTurn m start.world first (met, Some Sync)
  sync_turn met = record { hears = λ max is. absurd (cc); says = λ bytes is. absurd (cc) }

  pub hear_turn : (met : World) (max : ℕ) → HearsInTurn m start.world first met max → IsInTurn m start.world first (met, Some (Hear max))
  hear_turn met max turn = record {
    hears = λ n is. subst (λ (k : ℕ). HearsInTurn m start.world first met k) (same_max max n is) turn;
    says = λ bytes is. absurd (cc);
  }

  pub say_turn : (met : World) (bytes : List ℕ) → SaysInTurn m start.world first met bytes → IsInTurn m start.world first (met, Some (Say bytes))
  say_turn met bytes turn = record {
    hears = λ max is. absurd (cc);
    says = λ s is. subst (λ (t : List ℕ). SaysInTurn m start.world first met t) (same_bytes bytes s is) turn;
  }
