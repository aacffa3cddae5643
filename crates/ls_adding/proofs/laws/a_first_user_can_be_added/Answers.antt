use Rattle.ls_adding.proofs.FirstLemmas.{adds_first}
use Rattle.ls_adding.proofs.laws.a_first_user_can_be_added.Goals as goal

pub returns : goal.returns
returns c = adds_first
