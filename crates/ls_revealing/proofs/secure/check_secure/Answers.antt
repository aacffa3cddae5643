use Rattle.ls_revealing.proofs.RevealLemmas.{secure_some}
use Rattle.ls_revealing.proofs.secure.check_secure.Goals as goal

pub returns : goal.returns
returns g c = record {
  tries = secure_some c.args.row.now c.args.secret.now (g.B.Board.sight c.args.board.now) (g.B.Board.sight c.check_handle.new.board) c.check_handle.result c.if-row-eq0.false c.check_handle.ensures.tries;
}
