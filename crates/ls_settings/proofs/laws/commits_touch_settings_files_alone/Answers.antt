use Rattle.ls_settings.proofs.CommitLemmas.{commit_touches}
use Rattle.ls_settings.proofs.laws.commits_touch_settings_files_alone.Goals as goal

pub returns : goal.returns
returns c = commit_touches
