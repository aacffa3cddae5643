-- What stays of a world while a plan reaches its storage alone, also in the plan's images.
use Rattle.std.proofs.Common.{List, [], refl, sym, ◌∙◌, ap, length}
use Rattle.ls_board.specs.declared.action.Action.{Action}
use Rattle.ls_board.specs.declared.world.World.{World}
use Rattle.ls_board.specs.Images.{Leaves}
use Rattle.ls_board.specs.Reach.{Reach, AllTouchOnly, SameBut, LeavesBut}
use Rattle.ls_board.specs.Rest.{SameRest, LeavesRest}
use Rattle.ls_board.specs.Runs.{after_all, PlanImage}
use Rattle.ls_board.proofs.FrameLemmas.{plan_same, plan_but}

pub rest_refl : (w : World) → SameRest w w
rest_refl w = record { is = refl; count = refl }

pub rest_trans : (u v w : World) → SameRest u v → SameRest v w → SameRest u w
rest_trans u v w first second = record {
  is = second.is ∙ ap (λ (x : World). record x { files = w.files; touched = w.touched; slots = w.slots; gk = w.gk; keys = w.keys; cell = w.cell }) first.is;
  count = second.count ∙ first.count;
}

pub but_rest : (reach : Reach) (w mid : World) → SameBut reach w mid → SameRest w mid
but_rest reach w mid same = record { is = same.rest; count = same.count }

-- an image of what follows such a change
pub left_rest : (w mid image : World) → SameRest w mid → Leaves mid image → LeavesRest w image
left_rest w mid image same left = record {
  is =
      left.rest ∙ ap (λ (x : World). record x { files = image.files; touched = [] }) same.is
      ∙ ap (λ (x : World). record w { files = image.files; touched = []; slots = x.slots; gk = x.gk; keys = x.keys; cell = x.cell }) (sym left.rest);
  count = ap (λ (x : World). length x.slots) left.rest ∙ same.count;
}

pub but_left : (reach : Reach) (start w image : World) → SameRest start w → LeavesBut reach w image → LeavesRest start image
but_left reach start w image same left = left_rest start left.0 image (rest_trans start w left.0 same (but_rest reach w left.0 left.1)) left.2

-- a plan behind such a change
module _ (reach : Reach) (start w : World) (plan : List Action) (same : SameRest start w) (only : AllTouchOnly reach plan) where
  pub plan_rest : SameRest start (after_all w plan)
  plan_rest = rest_trans start w (after_all w plan) same (but_rest reach w (after_all w plan) (plan_same reach w plan only))

  pub plan_left_rest : (image : World) → PlanImage w plan image → LeavesRest start image
  plan_left_rest image left = but_left reach start w image same (plan_but reach w plan image only left)
