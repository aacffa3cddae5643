use Rattle.ls_placing.proofs.ClearLemmas.{kept_once, kept_apart}
use Rattle.ls_placing.proofs.laws.a_new_place_is_kept.Goals as goal

pub returns-clause-once : goal.returns-clause-once
returns-clause-once c = λ parts names q were new. kept_once parts names q new were

pub returns-clause-apart : goal.returns-clause-apart
returns-clause-apart c = λ parts names q were new. kept_apart parts names q new were
