use Rattle.ls_standing.proofs.ProtectorLemmas.{owned, named}
use Rattle.ls_standing.proofs.slots.named_slots_are_those_of_protectors.Goals as goal

pub returns-clause-owned : goal.returns-clause-owned
returns-clause-owned c = owned

pub returns-clause-named : goal.returns-clause-named
returns-clause-named c = named
