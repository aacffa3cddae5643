use Rattle.ls_standing.proofs.IdLemmas.{one_protector}
use Rattle.ls_standing.proofs.slots.protectors_have_their_own_ids.Goals as goal

pub returns : goal.returns
returns c = one_protector
