use Rattle.std.proofs.lemmas.Result.{err_from_is_err_and}
use Rattle.ls_sweep.proofs.SweptLemmas.{roomy, not_roomy}
use Rattle.ls_sweep.proofs.sweeping.prepare.Goals as goal

pub returns-in_err-make_room-clause-reads : goal.returns-in_err-make_room-clause-reads
returns-in_err-make_room-clause-reads g c =
    let p = err_from_is_err_and c.from_residual-in_err-make_room.result c.from_residual-in_err-make_room.ensures.1 in
    rw (p.1, p.2) (not_roomy (g.B.Board.sight c.args.board.now) (g.B.Board.sight c.plan_sweep.new.board) (g.B.Board.sight c.make_room.new.board) c.args.holder.now c.in_ok-planned.planned
    c.in_ok-planned.ensures.reads c.in_err-make_room.field-0.0 c.in_err-make_room.ensures.reads)

pub returns-clause-reads : goal.returns-clause-reads
returns-clause-reads g c =
    roomy (g.B.Board.sight c.args.board.now) (g.B.Board.sight c.plan_sweep.new.board) (g.B.Board.sight c.make_room.new.board) c.args.holder.now c.in_ok-planned.planned
    c.in_ok-planned.ensures.reads c.in_ok-make_room.ensures.reads
