use Rattle.ls_rebooting.proofs.PreparedLemmas.{capturing_serves}
use Rattle.ls_rebooting.proofs.preparing.prepare.Goals as goal

pub returns-clause-serves : goal.returns-clause-serves
returns-clause-serves g c =
    capturing_serves c.end_arming.new.x (record c.end_arming.new.x { captured = c.new.result }) c.new.ensures.items c.in_default.ensures.ends.ended
    (g.B.Board.sight c.args.board.now) (g.B.Board.sight c.end_arming.new.board) c.args.x.now c.in_default.field-0 c.in_default.ensures.fine c.in_default.ensures.serves
