use Rattle.std.proofs.lemmas.Result.{err_from_is_err_and}
use Rattle.ls_resume.proofs.LearnLemmas.{take_done, take_failed}
use Rattle.ls_resume.proofs.taking.take_key.Goals as goal

pub returns-in_err-answer : goal.returns-in_err-answer
returns-in_err-answer g c = record {
  learns =
      let p = err_from_is_err_and c.from_residual-in_err-answer.result c.from_residual-in_err-answer.ensures.1 in
      rw (p.1, p.2) (take_failed (g.B.Board.sight c.args.board.now) (g.B.Board.sight c.ready.new.self) (g.B.Board.sight c.act.new.self) 1 0 c.ready.result c.ready.ensures c.act.result c.act.new.out.items c.act.ensures
      (λ w. w.cell) c.in_err-answer.field-0.0 c.in_err-answer.was);
}

pub returns : goal.returns
returns g c = record {
  learns = take_done (g.B.Board.sight c.args.board.now) (g.B.Board.sight c.ready.new.self) (g.B.Board.sight c.act.new.self) 1 0 c.ready.result c.ready.ensures c.act.result c.act.new.out.items c.act.ensures
      c.in_ok-answer.answer c.key_in.result c.in_ok-answer.was c.key_in.ensures.same;
}
