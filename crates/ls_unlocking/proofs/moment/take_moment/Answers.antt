use Rattle.ls_unlocking.proofs.MomentLemmas.{takes_no_room}
use Rattle.ls_unlocking.proofs.moment.take_moment.Goals as goal

pub returns-in-Err : goal.returns-in-Err
returns-in-Err g c = record { takes = takes_no_room (g.B.Board.sight c.args.board.now) (g.B.Board.sight c.ready.new.self) c.ready.result c.ready.ensures }
