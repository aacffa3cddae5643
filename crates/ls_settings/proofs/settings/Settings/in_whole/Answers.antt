use Rattle.std.proofs.Common.{length, ◌∙◌, ap, arith}
use Rattle.ls_settings.proofs.LengthLemmas.{record_length}
use Rattle.ls_settings.proofs.PrepareLemmas.{in_whole}
use Rattle.ls_settings.proofs.settings.Settings.in_whole.Goals as goal

pub whole_plan-requires : goal.whole_plan-requires
whole_plan-requires c = record {
  fits = omega (arith, ap length (c.as_slice-body.ensures.same ∙ c.in_ok-text.ensures.spelled), record_length c.args.next c.in_ok-text.ensures.kept);
}

pub overflow_cast-place : goal.overflow_cast-place
overflow_cast-place c = omega (arith, ap length (c.as_slice-body.ensures.same ∙ c.in_ok-text.ensures.spelled), record_length c.args.next c.in_ok-text.ensures.kept)

pub overflow_add-place : goal.overflow_add-place
overflow_add-place c = omega (arith, ap length (c.as_slice-body.ensures.same ∙ c.in_ok-text.ensures.spelled), record_length c.args.next c.in_ok-text.ensures.kept)

pub returns-clause-prepared : goal.returns-clause-prepared
returns-clause-prepared c =
    in_whole c.args.self.now c.args.next c.requires.small _ c.self.view_is c.requires.none
    c.target_of-side.result c.target_of-side.ensures.side c.is_some.result c.is_some.ensures
    c.as_slice-body.result.now (c.as_slice-body.ensures.same ∙ c.in_ok-text.ensures.spelled) c.in_ok-text.ensures.kept
    c.in_ok-plan.plan c.in_ok-plan.ensures.plan
