use Rattle.ls_standing.proofs.LettingLemmas.{lets_retire}
use Rattle.ls_standing.proofs.bare.what_is_let_go_is_retired.Goals as goal

pub returns : goal.returns
returns c = lets_retire
