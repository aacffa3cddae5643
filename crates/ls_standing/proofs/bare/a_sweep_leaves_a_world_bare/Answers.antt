use Rattle.ls_standing.proofs.BareLemmas.{swept, tidied}
use Rattle.ls_standing.proofs.bare.a_sweep_leaves_a_world_bare.Goals as goal

pub returns-clause-swept : goal.returns-clause-swept
returns-clause-swept c = swept

pub returns-clause-tidied : goal.returns-clause-tidied
returns-clause-tidied c = tidied
