use Rattle.ls_drawing.proofs.DrawLemmas.{draws_no_room}
use Rattle.ls_drawing.proofs.noise.draw.Goals as goal

pub returns-in-Err : goal.returns-in-Err
returns-in-Err g c = record { draws = draws_no_room c.args.len (g.B.Board.sight c.args.board.now) (g.B.Board.sight c.ready.new.self) c.ready.result c.ready.ensures }
