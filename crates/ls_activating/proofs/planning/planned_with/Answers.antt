use Rattle.ls_drawing.proofs.PassingLemmas.{passes_then, passes_drawing, passes_lacking, passes_none, goes_drawn, stored_drawn}
use Rattle.ls_activating.proofs.planning.planned_with.Goals as goal

pub returns-in-Err-clause-passes : goal.returns-in-Err-clause-passes
returns-in-Err-clause-passes g c = passes_drawing _ _ _ _ c.in-Err.ensures.draws

pub returns-in-Ok-planned_by-clause-passes : goal.returns-in-Ok-planned_by-clause-passes
returns-in-Ok-planned_by-clause-passes g c =
    passes_then _ _ (goes_drawn _ _ _ _ c.in-Ok.ensures.draws) (stored_drawn _ _ _ _ c.in-Ok.ensures.draws) _ _ (passes_none c.in-Ok-planned_by.plan (g.B.Board.sight c.draw.new.board))

pub returns-clause-passes : goal.returns-clause-passes
returns-clause-passes g c =
    passes_then _ _ (goes_drawn _ _ _ _ c.in-Ok.ensures.draws) (stored_drawn _ _ _ _ c.in-Ok.ensures.draws) _ _ (passes_lacking (g.B.Board.sight c.draw.new.board))
