use Rattle.ls_drawing.proofs.PassingLemmas.{passes_lacking}
use Rattle.ls_changing.proofs.planning.planned_by.Goals as goal

pub chosen-requires-clause-room : goal.chosen-requires-clause-room
chosen-requires-clause-room g c = λ some. c.there_is_a_free_slot.ensures (g.B.Board.sight c.args.board.now) c.args.x.now c.requires.can c.requires.room some

pub returns-in-Err-clause-passes : goal.returns-in-Err-clause-passes
returns-in-Err-clause-passes g c = passes_lacking (g.B.Board.sight c.args.board.now)
