use Rattle.ls_sweep.proofs.LeftLemmas.{listed}
use Rattle.ls_sweep.proofs.laws.what_is_left_over_is_unnamed.Goals as goal

pub returns : goal.returns
returns c = listed
