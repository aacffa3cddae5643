use Rattle.std.proofs.Common.{arith}
use Rattle.ls_drawing.proofs.PassingLemmas.{passes_lacking}
use Rattle.ls_enrolling.proofs.ChoiceLemmas.{choice_is}
use Rattle.ls_enrolling.proofs.planning.planned_by.Goals as goal

pub choose-requires-clause-room : goal.choose-requires-clause-room
choose-requires-clause-room g c = λ some. c.there_is_a_free_slot.ensures (g.B.Board.sight c.args.board.now) c.args.x.now c.requires.can c.requires.room some

pub returns-in-Err-clause-passes : goal.returns-in-Err-clause-passes
returns-in-Err-clause-passes g c = passes_lacking (g.B.Board.sight c.args.board.now)

pub planned_with-requires-clause-choice : goal.planned_with-requires-clause-choice
planned_with-requires-clause-choice g c =
    choice_is (g.B.Board.sight c.args.board.now) c.args.x.now c.requires.can c.args.user c.args.escrow c.args.drawn.now c.in-Ok.n c.requires.may c.ranges.user.fits c.requires.drawn
    (λ i. let f = c.type_inv.drawn i in omega (arith, f)) c.in-Ok.ensures.place c.in-Ok.ensures.fits c.in-Ok.ensures.even c.in-Ok.ensures.small
    c.in-Ok-secret_of.secret c.in-Ok-secret_of.ensures.same c.in-Ok-secret_of.ensures.is_secret

pub returns-in-Err-secret_of-clause-passes : goal.returns-in-Err-secret_of-clause-passes
returns-in-Err-secret_of-clause-passes g c = passes_lacking (g.B.Board.sight c.args.board.now)
