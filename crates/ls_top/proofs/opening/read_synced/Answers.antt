use Rattle.std.proofs.lemmas.Result.{err_from_is_err_and}
use Rattle.ls_top.proofs.OpeningLemmas.{sync_failed, read_last}
use Rattle.ls_top.proofs.opening.read_synced.Goals as goal

pub returns-in_err-act-clause-reads : goal.returns-in_err-act-clause-reads
returns-in_err-act-clause-reads g c = λ told.
    let p = err_from_is_err_and c.from_residual-in_err-act.result c.from_residual-in_err-act.ensures.1 in
    rw (p.1, p.2) (sync_failed (g.B.Board.sight c.args.board.now) (g.B.Board.sight c.ready.new.self) (g.B.Board.sight c.act.new.self)
    _ _ c.ready.result c.ready.ensures told c.args.sync.now c.requires.syncs c.act.result c.act.new.out.items c.act.ensures
    c.in_err-act.field-0.0 c.act.new.out.items c.in_err-act.was)

pub returns-clause-reads : goal.returns-clause-reads
returns-clause-reads g c = λ told.
    read_last (g.B.Board.sight c.args.board.now) (g.B.Board.sight c.ready.new.self) (g.B.Board.sight c.act.new.self)
    _ _ c.ready.result c.ready.ensures told c.args.sync.now c.requires.syncs c.act.result c.act.new.out.items c.act.ensures
    c.in_ok-act.field-0 c.in_ok-act.was (g.B.Board.sight c.act-2.new.self) c.args.read.now c.requires.reads c.act-2.result c.act-2.new.out.items c.act-2.ensures
