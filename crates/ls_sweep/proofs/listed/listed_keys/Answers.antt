use Rattle.ls_sweep.proofs.ListedLemmas.{keys_shape, keys_failed, keys_listed}
use Rattle.ls_sweep.proofs.listed.listed_keys.Goals as goal

pub numbers_in-requires : goal.numbers_in-requires
numbers_in-requires g c = record {
  fields = keys_shape (g.B.Board.sight c.args.board.now) (g.B.Board.sight c.ready.new.self) (g.B.Board.sight c.act.new.self) c.ready.result c.ready.ensures c.act.result c.act.new.out.items c.act.ensures c.in-Ok.field-0 c.in-Ok.is;
}

pub returns-in-Ok : goal.returns-in-Ok
returns-in-Ok g c = record {
  sees = keys_listed (g.B.Board.sight c.args.board.now) (g.B.Board.sight c.ready.new.self) (g.B.Board.sight c.act.new.self) c.ready.result c.ready.ensures c.act.result c.act.new.out.items c.act.ensures c.in-Ok.field-0 c.in-Ok.is
      c.numbers_in.result c.numbers_in.ensures.fields c.numbers_in.ensures.each c.numbers_in.ensures.lacking;
}

pub returns-in-Err : goal.returns-in-Err
returns-in-Err g c = record {
  sees = keys_failed (g.B.Board.sight c.args.board.now) (g.B.Board.sight c.ready.new.self) (g.B.Board.sight c.act.new.self) c.ready.result c.ready.ensures c.act.result c.act.new.out.items c.act.ensures c.in-Err.fault c.in-Err.is;
}
