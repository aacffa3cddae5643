-- What stays of the parts of a protector while no action touches them.
use Rattle.std.proofs.Common.{⊎_elim, List, refl, sym, ◌∙◌, ap}
use Rattle.ls_board.specs.declared.action.Action.{Action}
use Rattle.ls_board.specs.declared.world.World.{World}
use Rattle.ls_board.specs.Effect.{touch_at}
use Rattle.ls_board.specs.Images.{Within}
use Rattle.ls_board.specs.Reach.{Reach, TouchesOnly, AllTouchOnly, SameBut, LeavesBut}
use Rattle.ls_board.specs.Runs.{after_all, PlanImage}
use Rattle.ls_board.proofs.FrameLemmas.{same_within, plan_same, plan_but, left_untouched, left_slot, left_counter, left_key}
use Rattle.ls_standing.proofs.TouchLemmas.{Inside, all_touch_more}
use Rattle.ls_formats.specs.declared.parts.Parts.{Parts}
use Rattle.ls_protector.specs.Parts.{reach_of_parts, reach_beside_parts}
use Rattle.ls_protector.specs.Settled.{IsSettled, SamePartsOf, IsErased, AreApart}

module _ (p : Parts) where
  abbrev beside : Reach
  beside = reach_beside_parts p

  pub but_same : (w mid : World) → SameBut beside w mid → SamePartsOf p w mid
  but_same w mid same = record {
    file = λ n its. same.file n (λ other. other its);
    slot = λ n its. same.slot n (λ other. other its);
    key = same.key p.id (λ other. other refl);
    counter = λ its. same.counter p.id (λ other. other (its, refl));
  }

  pub but_settled : (w mid : World) → SameBut beside w mid → IsSettled w p → IsSettled mid p
  but_settled w mid same settled = record {
    still = λ n its. ⊎_elim (λ was. was ∙ settled.still n its) (λ none. none) (same.touch n (λ other. other its));
  }

  -- an image
  module _ (w image : World) (left : LeavesBut beside w image) where
    pub left_same : IsSettled w p → SamePartsOf p w image
    left_same settled = record {
      file = λ n its. left_untouched beside w image n (λ other. other its) (settled.still n its) left;
      slot = λ n its. left_slot beside w image n (λ other. other its) left;
      key = left_key beside w image p.id (λ other. other refl) left;
      counter = λ its. left_counter beside w image p.id (λ other. other (its, refl)) left;
    }

    -- nothing is touched in an image
    pub left_settled : IsSettled image p
    left_settled = record { still = λ n its. ap (λ (v : World). touch_at v n) left.2.rest }

    pub left_erased : IsErased w p → IsErased image p
    left_erased erased = record {
      slot = λ n its. left_slot beside w image n (λ other. other its) left ∙ erased.slot n its;
      key = left_key beside w image p.id (λ other. other refl) left ∙ erased.key;
      counter = λ its. left_counter beside w image p.id (λ other. other (its, refl)) left ∙ erased.counter its;
    }

  pub but_erased : (w mid : World) → SameBut beside w mid → IsErased w p → IsErased mid p
  but_erased w mid same erased = record {
    slot = λ n its. same.slot n (λ other. other its) ∙ erased.slot n its;
    key = same.key p.id (λ other. other refl) ∙ erased.key;
    counter = λ its. same.counter p.id (λ other. other (its, refl)) ∙ erased.counter its;
  }

  -- ---- a plan

  pub plan_keeps : (w : World) (plan : List Action) → AllTouchOnly beside plan → SameBut beside w (after_all w plan)
  plan_keeps w plan only = plan_same beside w plan only

  pub plan_leaves : (w image : World) (plan : List Action) → AllTouchOnly beside plan → PlanImage w plan image → LeavesBut beside w image
  plan_leaves w image plan only left = plan_but beside w plan image only left

  pub action_keeps : (w mid : World) (a : Action) → TouchesOnly beside a → Within w a mid → SameBut beside w mid
  action_keeps w mid a only within = same_within beside w mid a only within

-- ---- two protectors

module _ (p q : Parts) (apart : AreApart p q) where
  apart_inside : Inside (reach_of_parts q) (reach_beside_parts p)
  apart_inside = record {
    file = λ n its other. apart.files n other its;
    slot = λ n its other. apart.slots n other its;
    sid = λ sid its other. apart.ids (sym other.1 ∙ its.1);
    alias = λ alias its other. apart.ids (sym other ∙ its);
    cell = λ no. absurd no;
  }

  pub plan_beside : (plan : List Action) → AllTouchOnly (reach_of_parts q) plan → AllTouchOnly (reach_beside_parts p) plan
  plan_beside plan only = all_touch_more (reach_of_parts q) (reach_beside_parts p) apart_inside plan only

  pub but_beside : (w mid : World) → SameBut (reach_of_parts q) w mid → SameBut (reach_beside_parts p) w mid
  but_beside w mid same = record {
    rest = same.rest;
    file = λ n other. same.file n (λ its. other (apart_inside.file n its));
    touch = λ n other. same.touch n (λ its. other (apart_inside.file n its));
    count = same.count;
    slot = λ n other. same.slot n (λ its. other (apart_inside.slot n its));
    counter = λ n other. same.counter n (λ its. other (apart_inside.sid n its));
    key = λ n other. same.key n (λ its. other (apart_inside.alias n its));
    cell = λ other. same.cell (λ its. other (apart_inside.cell its));
  }
