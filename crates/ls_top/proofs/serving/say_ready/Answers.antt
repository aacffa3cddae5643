use Rattle.std.proofs.lemmas.Result.{err_from_is_err_and}
use Rattle.ls_top.proofs.ServingLemmas.{says_ok, says_cut}
use Rattle.ls_top.proofs.serving.say_ready.Goals as goal

pub returns-in_err-act-clause-cut : goal.returns-in_err-act-clause-cut
returns-in_err-act-clause-cut g c = λ told text is start first lines line users settled reply.
    let p = err_from_is_err_and c.from_residual.result c.from_residual.ensures.1 in
    rw (p.1, p.2) (says_cut start (g.B.Board.sight c.args.board.now) (g.B.Board.sight c.act.new.self) first lines line users text settled reply c.in_err-act.field-0.0 c.act.new.out.items c.args.say.now told is c.in_err-act.ensures)

pub returns-clause-served : goal.returns-clause-served
returns-clause-served g c = λ told text is start first lines line users settled reply.
    says_ok start (g.B.Board.sight c.args.board.now) (g.B.Board.sight c.act.new.self) first lines line users text settled reply c.in_ok-act.field-0 c.act.new.out.items c.args.say.now told is c.in_ok-act.ensures
