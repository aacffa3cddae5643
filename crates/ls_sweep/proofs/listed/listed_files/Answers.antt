use Rattle.ls_sweep.proofs.ListedLemmas.{names_shape, names_failed, names_listed}
use Rattle.ls_sweep.proofs.listed.listed_files.Goals as goal

pub names_in-requires : goal.names_in-requires
names_in-requires g c = record {
  listing = names_shape (g.B.Board.sight c.args.board.now) (g.B.Board.sight c.ready.new.self) (g.B.Board.sight c.act.new.self) c.ready.result c.ready.ensures c.act.result c.act.new.out.items c.act.ensures c.in-Ok.field-0 c.in-Ok.is;
}

pub returns-in-Ok : goal.returns-in-Ok
returns-in-Ok g c = record {
  sees = names_listed (g.B.Board.sight c.args.board.now) (g.B.Board.sight c.ready.new.self) (g.B.Board.sight c.act.new.self) c.ready.result c.ready.ensures c.act.result c.act.new.out.items c.act.ensures c.in-Ok.field-0 c.in-Ok.is
      c.names_in.result c.names_in.ensures.lines c.names_in.ensures.each c.names_in.ensures.lacking;
}

pub returns-in-Err : goal.returns-in-Err
returns-in-Err g c = record {
  sees = names_failed (g.B.Board.sight c.args.board.now) (g.B.Board.sight c.ready.new.self) (g.B.Board.sight c.act.new.self) c.ready.result c.ready.ensures c.act.result c.act.new.out.items c.act.ensures c.in-Err.fault c.in-Err.is;
}
