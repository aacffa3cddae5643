use Rattle.ls_chain.proofs.HandleFileLemmas.{confirms, confirm_failed}
use Rattle.ls_chain.proofs.handle_file.confirm.Goals as goal

pub returns-in-Ok : goal.returns-in-Ok
returns-in-Ok g c = record {
  tries = confirms c.args.secure c.args.handle.now _ (g.B.Board.sight c.args.board.now) (g.B.Board.sight c.ready.new.self) (g.B.Board.sight c.ask_handle.new.board) _ _ c.ready.result c.ready.ensures
      c.in-Ok.checked c.in-Ok.ensures.asks c.confirmed.result c.confirmed.ensures.gives;
}

pub returns : goal.returns
returns g c = record {
  tries = confirm_failed c.args.secure c.args.handle.now _ (g.B.Board.sight c.args.board.now) (g.B.Board.sight c.ready.new.self) (g.B.Board.sight c.ask_handle.new.board) _ _ c.ready.result c.ready.ensures
      c.in-Err.part c.in-Err.ensures.asks;
}
