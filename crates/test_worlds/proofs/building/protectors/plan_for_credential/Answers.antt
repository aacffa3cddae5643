use Rattle.std.proofs.Common.{List, subst, sym}
use Rattle.ls_board.specs.declared.action.Action.{Action}
use Rattle.ls_board.specs.Runs.{AllApply, AllSound}
use Rattle.ls_sealing.specs.Draws.{credential_draw}
use Rattle.ls_sealing.specs.Protectors.{credential, Protector}
use Rattle.ls_sealing.specs.Building.{credential_writing}
use Rattle.test_worlds.proofs.building.protectors.plan_for_credential.Goals as goal

pub returns : goal.returns
returns c =
    let place = c.args.place.now in
    let p : Protector = record { user = place.user; id = place.id; purpose = credential c.args.credential.now.kind } in
    let m = credential_writing place.slot c.args.credential.now c.args.secret.now (credential_draw c.args.credential.now.kind c.args.drawn.now) c.args.handle.now in
    let law = c.protectors_are_written_by_plans.ensures in
    record {
      sound = λ slots fits. subst (λ (xs : List Action). AllSound slots xs) (sym c.in_ok-plan.ensures.built) (law.sound slots p place.slot m fits);
      applies = λ w. subst (λ (xs : List Action). AllApply w xs) (sym c.in_ok-plan.ensures.built) (law.applies w p place.slot m);
    }
