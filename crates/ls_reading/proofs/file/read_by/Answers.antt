use Rattle.std.proofs.lemmas.Result.{err_from_is_err_and}
use Rattle.ls_reading.proofs.SeeLemmas.{read_failed, read_done}
use Rattle.ls_reading.proofs.file.read_by.Goals as goal

pub returns-in_err-answer : goal.returns-in_err-answer
returns-in_err-answer g c = record {
  sees =
      let p = err_from_is_err_and c.from_residual-in_err-answer.result c.from_residual-in_err-answer.ensures.1 in
      rw (p.1, p.2) (read_failed (g.B.Board.sight c.args.board.now) (g.B.Board.sight c.ready.new.self) (g.B.Board.sight c.act.new.self) _ _ c.ready.result c.ready.ensures c.act.result c.act.new.out.items
      c.args.name.now c.args.read.now c.requires.reads c.act.ensures c.in_err-answer.field-0.0 c.in_err-answer.was);
}

pub returns : goal.returns
returns g c = record {
  sees = read_done (g.B.Board.sight c.args.board.now) (g.B.Board.sight c.ready.new.self) (g.B.Board.sight c.act.new.self) _ _ c.ready.result c.ready.ensures c.act.result c.act.new.out.items
      c.args.name.now c.args.read.now c.requires.reads c.act.ensures c.in_ok-answer.answer c.in_ok-answer.was c.file_in.result c.file_in.ensures.absent c.file_in.ensures.there;
}
