-- Runs that go on, and what they met.
use Rattle.std.proofs.Common.{◌++◌, ℕ, List, [], ◌∷◌, refl, sym, ◌∙◌, ap, inl, inr, append_assoc}
use Rattle.std.specs.Prelude.{Option}
use Rattle.ls_board.specs.declared.action.Action.{Action}
use Rattle.ls_board.specs.declared.world.World.{World}
use Rattle.ls_board.specs.Acts.{Sight}
use Rattle.ls_serving.specs.Machine.{Machine, stage_after}
use Rattle.ls_serving.specs.Met.{IsMet, Extends, MetBetween, NoChance}
use Rattle.ls_serving.specs.Serving.{ComesNext}

pub extends-refl : (s : Sight) → Extends s s
extends-refl s = ([], refl)

pub extends-trans : (a b c : Sight) → Extends a b → Extends b c → Extends a c
extends-trans a b c (one, p) (two, q) = (two ++ one, q ∙ ap (λ l. two ++ l) p ∙ sym (append_assoc two one a.past))

met_left : (w : World) (xs ys : List (World × Option Action)) → IsMet w xs → IsMet w (xs ++ ys)
met_left w [] ys met = absurd met
met_left w (x ∷ xs) ys (inl is) = inl is
met_left w (x ∷ xs) ys (inr met) = inr (met_left w xs ys met)

met_right : (w : World) (xs ys : List (World × Option Action)) → IsMet w ys → IsMet w (xs ++ ys)
met_right w [] ys met = met
met_right w (x ∷ xs) ys met = inr (met_right w xs ys met)

-- a run that goes on has met what it met before
pub met_front : (a b c : Sight) (w : World) → Extends b c → MetBetween a b w → MetBetween a c w
met_front a b c w (two, q) (one, p, met) = (two ++ one, q ∙ ap (λ l. two ++ l) p ∙ sym (append_assoc two one a.past), met_right w two one met)

pub met_back : (a b c : Sight) (w : World) → Extends a b → MetBetween b c w → MetBetween a c w
met_back a b c w (one, p) (two, q, met) = (two ++ one, q ∙ ap (λ l. two ++ l) p ∙ sym (append_assoc two one a.past), met_left w two one met)

module _ (m : Machine) (first : m.Stage) where
  pub chance_front : (start mid new : Sight) → Extends mid new → NoChance m first start new → NoChance m first start mid
  chance_front start mid new more none = λ w met. none w (met_front start mid new w more met)

  pub chance_next : (start old new : Sight) → Extends start old → NoChance m first start new
      → (lines : List (List ℕ)) (line : List ℕ) → ComesNext start lines line
      → (w : World) → MetBetween old new w → m.apart w (stage_after m first lines) line
  chance_next start old new since none lines line next = λ w met. none w (met_back start old new w since met) lines line next.0 next.1
