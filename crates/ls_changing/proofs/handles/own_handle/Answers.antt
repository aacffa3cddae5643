use Rattle.ls_drawing.proofs.PassingLemmas.{passes_reading}
use Rattle.ls_changing.proofs.handles.own_handle.Goals as goal

pub returns-in-Ok-clause-passes : goal.returns-in-Ok-clause-passes
returns-in-Ok-clause-passes g c = passes_reading _ _ _ _ c.in-Ok.ensures.sees

pub returns-in-Err-clause-passes : goal.returns-in-Err-clause-passes
returns-in-Err-clause-passes g c = passes_reading _ _ _ _ c.in-Err.ensures.sees
