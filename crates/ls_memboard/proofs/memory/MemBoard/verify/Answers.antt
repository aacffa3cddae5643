use Rattle.std.proofs.Common.{◌∙◌}
use Rattle.ls_board.specs.Gatekeeper.{verify_answer}
use Rattle.ls_memboard.proofs.memory.MemBoard.verify.Goals as goal

pub returns : goal.returns
returns c =
    let devices = c.args.self.now.in_step.devices_are in
    record {
      answer = c.from.ensures ∙ c.answer-verify.ensures.answer ∙ (λ i. verify_answer (devices.gk_key i) (devices.gk i) c.args.handle.now c.args.password.now c.args.moment);
    }
