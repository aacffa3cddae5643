use Rattle.std.proofs.lemmas.Result.{err_from_is_err_and}
use Rattle.ls_top.proofs.ServingLemmas.{puts_cut, syncs_ok, syncs_cut}
use Rattle.ls_top.proofs.serving.put_synced.Goals as goal

pub returns-in_err-act-clause-cut : goal.returns-in_err-act-clause-cut
returns-in_err-act-clause-cut g c = λ told start first lines line before users next serving is vault same.
    let p = err_from_is_err_and c.from_residual.result c.from_residual.ensures.1 in
    rw (p.1, p.2) (puts_cut start (g.B.Board.sight c.args.board.now) first lines line before users next serving is vault (g.B.Board.sight c.act.new.self) c.in_err-act.field-0.0 c.act.new.out.items c.args.put.now told same c.in_err-act.ensures)

pub returns-in_err-act-2-clause-cut : goal.returns-in_err-act-2-clause-cut
returns-in_err-act-2-clause-cut g c = λ told start first lines line before users next serving is vault same.
    let p = err_from_is_err_and c.from_residual-in_err-act-2.result c.from_residual-in_err-act-2.ensures.1 in
    rw (p.1, p.2) (syncs_cut start (g.B.Board.sight c.args.board.now) first lines line before users next serving is vault
    (g.B.Board.sight c.act.new.self) (g.B.Board.sight c.act-2.new.self) c.in_ok-act.field-0 c.act.new.out.items c.act-2.new.out.items
    c.args.put.now c.args.sync.now told same c.in_ok-act.ensures c.requires.can.is_sync c.in_err-act-2.field-0.0 c.in_err-act-2.ensures)

pub returns-clause-settled : goal.returns-clause-settled
returns-clause-settled g c = λ told start first lines line before users next serving is vault same.
    syncs_ok start (g.B.Board.sight c.args.board.now) first lines line before users next serving is vault
    (g.B.Board.sight c.act.new.self) (g.B.Board.sight c.act-2.new.self) c.in_ok-act.field-0 c.act.new.out.items c.act-2.new.out.items
    c.args.put.now c.args.sync.now told same c.in_ok-act.ensures c.requires.can.is_sync c.in_ok-act-2.field-0 c.in_ok-act-2.ensures
