use Rattle.ls_naming.proofs.CurrentLemmas.{settings_follow}
use Rattle.ls_naming.proofs.laws.settings_follow_two_files.Goals as goal

pub returns : goal.returns
returns c = settings_follow
