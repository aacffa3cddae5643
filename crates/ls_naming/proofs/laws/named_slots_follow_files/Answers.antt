use Rattle.ls_naming.proofs.NamingLemmas.{slots_follow}
use Rattle.ls_naming.proofs.laws.named_slots_follow_files.Goals as goal

pub returns : goal.returns
returns c = slots_follow
