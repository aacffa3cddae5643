use Rattle.std.proofs.Common.{List, subst, sym}
use Rattle.ls_board.specs.declared.action.Action.{Action}
use Rattle.ls_board.specs.Runs.{AllApply, AllSound}
use Rattle.ls_sealing.specs.Draws.{token_draw}
use Rattle.ls_sealing.specs.Protectors.{token, Protector}
use Rattle.ls_sealing.specs.Building.{token_writing}
use Rattle.test_worlds.proofs.building.protectors.plan_for_token.Goals as goal

pub returns : goal.returns
returns c =
    let place = c.args.place.now in
    let p : Protector = record { user = place.user; id = place.id; purpose = token } in
    let m = token_writing place.slot c.args.token.now c.args.version c.args.p0.now (token_draw c.args.drawn.now) in
    let law = c.protectors_are_written_by_plans.ensures in
    record {
      sound = λ slots fits. subst (λ (xs : List Action). AllSound slots xs) (sym c.in_ok-plan.ensures.built) (law.sound slots p place.slot m fits);
      applies = λ w. subst (λ (xs : List Action). AllApply w xs) (sym c.in_ok-plan.ensures.built) (law.applies w p place.slot m);
    }
