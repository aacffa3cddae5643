use Rattle.ls_standing.proofs.UnnamedLemmas.{unnamed_protector}
use Rattle.ls_standing.proofs.slots.other_protectors_are_unnamed.Goals as goal

pub returns : goal.returns
returns c = unnamed_protector
