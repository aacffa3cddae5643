-- Plans with one action more.
use Rattle.std.proofs.Common.{ℕ, List, [], ◌∷◌, ◌++◌}
use Rattle.ls_board.specs.declared.action.Action.{Action}
use Rattle.ls_board.specs.declared.world.World.{World}
use Rattle.ls_board.specs.Effect.{after, Applies, IsSound}
use Rattle.ls_board.specs.Reach.{Reach, TouchesOnly, AllTouchOnly}
use Rattle.ls_board.specs.Runs.{AllApply, AllSound}
use Rattle.ls_record.specs.Rows.{Rec}
use Rattle.ls_standing.specs.Quiet.{unnamed}
use Rattle.test_worlds.specs.Building.{Fits}

sound_push : (slots : ℕ) (xs : List Action) (a : Action) → AllSound slots xs → IsSound slots a → AllSound slots (xs ++ a ∷ [])
sound_push slots [] a all one = (one, tt)
sound_push slots (x ∷ xs) a all one = (all.0, sound_push slots xs a all.1 one)

apply_push : (w : World) (xs : List Action) (a : Action) → AllApply w xs → ((v : World) → Applies v a) → AllApply w (xs ++ a ∷ [])
apply_push w [] a all one = (one w, tt)
apply_push w (x ∷ xs) a all one = (all.0, apply_push (after w x 0) xs a all.1 one)

touch_push : (reach : Reach) (xs : List Action) (a : Action) → AllTouchOnly reach xs → TouchesOnly reach a → AllTouchOnly reach (xs ++ a ∷ [])
touch_push reach [] a all one = (one, tt)
touch_push reach (x ∷ xs) a all one = (all.0, touch_push reach xs a all.1 one)

pub fits_push : (w : World) (r : Rec) (xs : List Action) (a : Action) → Fits w r xs → ((slots : ℕ) → IsSound slots a) → ((v : World) → Applies v a) → TouchesOnly (unnamed w r) a → Fits w r (xs ++ a ∷ [])
fits_push w r xs a fits sound applies touches = record {
  sound = λ slots. sound_push slots xs a (fits.sound slots) (sound slots);
  applies = λ v. apply_push v xs a (fits.applies v) applies;
  touches = touch_push (unnamed w r) xs a fits.touches touches;
}
