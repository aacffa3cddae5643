use Rattle.ls_session.proofs.KeepingLemmas.{next_row, zip_row}
use Rattle.ls_session.proofs.keeping.+keep_rows.Goals as goal

pub returns-in_ok-kept-in-len1-up-clause-sees : goal.returns-in_ok-kept-in-len1-up-clause-sees
returns-in_ok-kept-in-len1-up-clause-sees g t c = next_row c.args.slots (g.B.Board.sight c.args.board.now) (g.B.Board.sight c.keep_row.new.board) (g.B.Board.sight c.keep_rows.new.board) c.args.kept c.in_ok-kept-in-len1-up.kept c.keep_rows.result
    c.args.rows.now c.row-item.result c.in-len1-up.len_at_least c.row-item.is c.in_ok-kept-in-len1-up.ensures.sees c.keep_rows.ensures.sees

pub returns-in_ok-kept-in-len1-up-clause-zip : goal.returns-in_ok-kept-in-len1-up-clause-zip
returns-in_ok-kept-in-len1-up-clause-zip g t c = λ done all. zip_row c.args.slots c.keep_rows.result c.args.rows.now c.row-item.result done c.in-len1-up.len_at_least c.row-item.is
    (c.keep_rows.ensures.zip _ (c.in_ok-kept-in-len1-up.ensures.zip done all))
