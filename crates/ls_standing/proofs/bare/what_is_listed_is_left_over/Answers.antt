use Rattle.ls_standing.proofs.ListedLemmas.{listed_left}
use Rattle.ls_standing.proofs.bare.what_is_listed_is_left_over.Goals as goal

pub returns : goal.returns
returns c = listed_left
