use Rattle.ls_opening.proofs.WalkLemmas.{next_row}
use Rattle.ls_opening.proofs.walk.+pass_rows.Goals as goal

pub returns-in_ok-walk-in-len1-up : goal.returns-in_ok-walk-in-len1-up
returns-in_ok-walk-in-len1-up g t c = record {
  sees = next_row (g.B.Board.sight c.args.board.now) (g.B.Board.sight c.pass_row.new.board) (g.B.Board.sight c.pass_rows.new.board) c.args.walk c.in_ok-walk-in-len1-up.walk c.pass_rows.result
      c.args.weaver c.args.armed.now c.args.rows.now c.row-item.result c.in-len1-up.len_at_least c.row-item.is c.in_ok-walk-in-len1-up.ensures.sees c.pass_rows.ensures.sees;
}
