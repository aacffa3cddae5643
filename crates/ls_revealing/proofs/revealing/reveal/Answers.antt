use Rattle.ls_revealing.proofs.RevealLemmas.{secure_holds}
use Rattle.ls_revealing.proofs.revealing.reveal.Goals as goal

pub returns : goal.returns
returns g c = record {
  tries = secure_holds c.args.row.now c.args.secret.now (g.B.Board.sight c.args.board.now) (g.B.Board.sight c.check_secure.new.board) (g.B.Board.sight c.counts_told.new.board) c.in_ok-check_secure.field-0 c.counts_told.result
      c.in_ok-check_secure.ensures.tries c.counts_told.ensures.looks;
}
