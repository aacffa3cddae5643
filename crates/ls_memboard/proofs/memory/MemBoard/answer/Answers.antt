use Rattle.std.proofs.Common.{rules, ◌≡◌, ap, sym, ◌∙◌, subst, ℕ, List}
use Rattle.ls_board.specs.declared.action.Action.{Action}
use Rattle.ls_board.specs.declared.action.Action.TheVariants.{GkVerify}
use Rattle.ls_board.specs.Effect.{Answers}
use Rattle.ls_board.specs.Gatekeeper.{verify_answer}
use Rattle.ls_memboard.specs.Replay.{replay}
use Rattle.ls_memboard.proofs.memory.MemBoard.answer.Goals as goal

pub returns-in-GkVerify-clause-answer : goal.returns-in-GkVerify-clause-answer
returns-in-GkVerify-clause-answer c =
    let s = c.args.self.now in
    let w = replay s.pool.items s.start s.log.items in
    let is : c.args.a.now ≡ GkVerify c.in-GkVerify.handle c.in-GkVerify.password c.in-GkVerify.moment = search rules in
    subst (λ (a : Action). Answers w a c.verify.result c.args.out.now.items) (sym is)
    (c.verify.ensures.answer ∙ ap (λ (p : List ℕ). verify_answer w.gk_key w.gk c.in-GkVerify.handle p c.in-GkVerify.moment) c.as_slice-in-GkVerify.ensures.same, c.requires.empty)
