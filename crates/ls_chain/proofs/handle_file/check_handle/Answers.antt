use Rattle.std.proofs.Common.{◌∙◌}
use Rattle.std.proofs.lemmas.Result.{err_from_is_err_and}
use Rattle.ls_chain.proofs.HandleFileLemmas.{no_handle, handle_tried}
use Rattle.ls_chain.proofs.handle_file.check_handle.Goals as goal

pub returns-in_err-file : goal.returns-in_err-file
returns-in_err-file g c = record {
  tries =
      let p = err_from_is_err_and c.from_residual.result c.from_residual.ensures.1 in
      rw (p.1, p.2) (no_handle c.args.user c.args.secure c.args.secret.now (g.B.Board.sight c.args.board.now) (g.B.Board.sight c.sound_file.new.board) c.in_err-file.field-0.0 c.in_err-file.ensures.looks);
}

pub returns : goal.returns
returns g c = record {
  tries = handle_tried c.args.user c.args.secure c.args.secret.now (g.B.Board.sight c.args.board.now) (g.B.Board.sight c.sound_file.new.board) (g.B.Board.sight c.confirm_secret.new.board)
      c.in_ok-file.file _ c.confirm_secret.result (c.handle_in-handle.ensures.same ∙ c.as_slice.ensures.same) c.in_ok-file.ensures.looks c.confirm_secret.ensures.tries;
}
