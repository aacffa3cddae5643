use Rattle.ls_drawing.proofs.PassingLemmas.{passes_then, passes_drawing, goes_drawn, stored_drawn}
use Rattle.ls_changing.proofs.planning.planned.Goals as goal

pub returns-in-Err-clause-passes : goal.returns-in-Err-clause-passes
returns-in-Err-clause-passes g c = passes_drawing _ _ _ _ c.in-Err.ensures.draws

pub planned_by-requires-clause-can : goal.planned_by-requires-clause-can
planned_by-requires-clause-can g c = (goes_drawn _ _ _ _ c.in-Ok.ensures.draws).can c.args.x.now c.requires.can

pub returns-clause-passes : goal.returns-clause-passes
returns-clause-passes g c = passes_then _ _ (goes_drawn _ _ _ _ c.in-Ok.ensures.draws) (stored_drawn _ _ _ _ c.in-Ok.ensures.draws) _ _ c.planned_by.ensures.passes
