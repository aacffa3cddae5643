use Rattle.ls_sealing.proofs.HeldLemmas.{held_same, held_left}
use Rattle.ls_sealing.proofs.laws.what_is_held_follows_the_parts.Goals as goal

pub returns-clause-same : goal.returns-clause-same
returns-clause-same c = held_same

pub returns-clause-left : goal.returns-clause-left
returns-clause-left c = held_left
