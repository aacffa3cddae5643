use Rattle.std.proofs.Common.{subst}
use Rattle.ls_serving.specs.declared.hearing.Ending.{Ending}
use Rattle.ls_serving.specs.Ending.{IsInputAt, IsEnding}
use Rattle.ls_serving.proofs.hearing.serve_all.Goals as goal

pub returns-clause-ends : goal.returns-clause-ends
returns-clause-ends g c = λ told start first same serving.
    subst (λ (e : Ending). IsEnding g.S.Service.machine (g.S.Service.agrees start.world c.hear_all.new.service) start (g.B.Board.sight c.hear_all.new.board) first c.hear_all.new.line e) c.in-AtLimit.is
    (c.in_ok-hear_all.ensures.ends told start first same c.new-line.ensures.empty serving)

pub returns-clause-input : goal.returns-clause-input
returns-clause-input g c = λ told.
    subst (λ (e : Ending). IsInputAt (g.B.Board.sight c.args.board.now).world (g.B.Board.sight c.hear_all.new.board).world e) c.in-AtLimit.is (c.in_ok-hear_all.ensures.input told)
