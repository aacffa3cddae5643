use Rattle.std.proofs.Common.{sym, subst}
use Rattle.std.specs.Prelude.{Ok, Err}
use Rattle.ls_settings.specs.declared.fault.OpenRefusal.{OpenRefusal}
use Rattle.ls_session.specs.Opening.{Begins}
use Rattle.ls_session.proofs.BeginLemmas.{sync_failed, begins}
use Rattle.ls_session.proofs.begin.begin.Goals as goal

pub returns-in-Err : goal.returns-in-Err
returns-in-Err g c = record {
  begins = subst (λ (e : OpenRefusal). Begins (g.B.Board.sight c.args.board.now) (Err e) (g.B.Board.sight c.sync.new.board)) (sym c.from.ensures)
      (sync_failed (g.B.Board.sight c.args.board.now) (g.B.Board.sight c.sync.new.board) c.in-Err.fault c.in-Err.ensures.syncs);
}

pub returns-in-Ok-load : goal.returns-in-Ok-load
returns-in-Ok-load g c = record {
  begins = begins (g.B.Board.sight c.args.board.now) (g.B.Board.sight c.sync.new.board) (g.B.Board.sight c.load.new.board) c.in-Ok.done c.in-Ok.ensures.syncs (Ok c.in-Ok-load.settings)
      c.in-Ok-load.ensures.keeps c.in-Ok-load.ensures.loads;
}

pub returns-in-Err-load : goal.returns-in-Err-load
returns-in-Err-load g c = record {
  begins = begins (g.B.Board.sight c.args.board.now) (g.B.Board.sight c.sync.new.board) (g.B.Board.sight c.load.new.board) c.in-Ok.done c.in-Ok.ensures.syncs (Err c.in-Err-load.refusal)
      c.in-Err-load.ensures.keeps c.in-Err-load.ensures.loads;
}
