use Rattle.std.proofs.Common.{◌∙◌}
use Rattle.ls_sealing.proofs.PlanLemmas.{token_pushed, err_only}
use Rattle.ls_sealing.proofs.token.token_plan.Goals as goal

pub returns : goal.returns
returns c = record {
  built = token_pushed c.args.place.now.user c.args.place.now.id c.args.place.now.slot c.args.token.now c.args.version c.args.p0.now c.args.drawn.now
      c.new-plan.result c.push_devices.new.plan c.push_half.new.plan c.push_discardable.new.plan c.push_slot_file.new.plan c.piece_at-key.result c.value.result c.as_slice-protector.result.now
      c.new-plan.ensures.empty c.in_ok-push_devices.ensures.pushed c.in_ok-push_half.ensures.pushed c.in_ok-push_discardable.ensures.pushed c.in_ok-push_slot_file.ensures.pushed
      c.piece_at-key.ensures.same c.value.ensures.same (c.as_slice-protector.ensures.same ∙ c.in_ok-protector.ensures.same);
}

pub returns-in_err-push_slot_file : goal.returns-in_err-push_slot_file
returns-in_err-push_slot_file c = record { built = err_only c.from_residual-in_err-push_slot_file.result _ _ c.from_residual-in_err-push_slot_file.ensures.1 }
