use Rattle.ls_standing.proofs.BareLemmas.{changed}
use Rattle.ls_standing.proofs.bare.a_change_leaves_a_world_bare.Goals as goal

pub returns : goal.returns
returns c = changed
