use Rattle.ls_resume.proofs.ArmedLemmas.{plan_made}
use Rattle.ls_resume.proofs.arming.arm_plan.Goals as goal

pub returns : goal.returns
returns c = record {
  arms = plan_made c.args.drawn.now c.args.secrets.now c.as_slice.ensures.ascending c.as_slice.result.now c.piece_at-key.result c.piece_at-once.result
      c.new-plan.result c.push.new.self c.push_files.new.plan c.push-2.new.self c.push-3.new.self
      c.as_slice.ensures.same c.piece_at-key.ensures.same c.piece_at-once.ensures.same c.new-plan.ensures.empty
      c.in_ok-push.ensures.pushed c.in_ok-push_files.ensures.pushed c.in_ok-push-2.ensures.pushed c.in_ok-push-3.ensures.pushed;
}
