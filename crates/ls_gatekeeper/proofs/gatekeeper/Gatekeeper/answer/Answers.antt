use Rattle.std.proofs.Common.{◌∙◌, ap}
use Rattle.ls_board.specs.Gatekeeper.{sid_of, is_signed, counter_answer, answer_by}
use Rattle.ls_gatekeeper.proofs.gatekeeper.Gatekeeper.answer.Goals as goal

pub returns : goal.returns
returns c =
    let handle = c.args.handle.now in
    let password = c.args.password.now in
    let device = c.args.self.now in
    record {
      answer = c.count.ensures.answer
          ∙ (λ i. counter_answer c.in-Some.counter (c.sid_of-sid.ensures i) (c.is_signed.ensures i) c.args.moment)
          ∙ ap (λ d. counter_answer c.in-Some.counter (sid_of handle) (is_signed d.key handle password) c.args.moment) c.self.view_is
          ∙ ap (answer_by (sid_of handle) (is_signed device.key handle password) c.args.moment) c.in-Some.ensures.found;
    }
