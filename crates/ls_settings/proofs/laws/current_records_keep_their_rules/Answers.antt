use Rattle.ls_settings.proofs.RuleLemmas.{current_keeps}
use Rattle.ls_settings.proofs.laws.current_records_keep_their_rules.Goals as goal

pub returns : goal.returns
returns c = current_keeps
