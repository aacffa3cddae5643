use Rattle.ls_naming.proofs.CurrentLemmas.{entries_follow}
use Rattle.ls_naming.proofs.laws.entries_follow_gates.Goals as goal

pub returns : goal.returns
returns c = entries_follow
