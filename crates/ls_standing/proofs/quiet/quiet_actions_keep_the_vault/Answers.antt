use Rattle.ls_standing.proofs.QuietLemmas.{quiet_kept, quiet_within, quiet_done, quiet_cut, quiet_cut_call}
use Rattle.ls_standing.proofs.quiet.quiet_actions_keep_the_vault.Goals as goal

pub returns-clause-within : goal.returns-clause-within
returns-clause-within c = λ w mid s v a. quiet_within s v w mid a

pub returns-clause-done : goal.returns-clause-done
returns-clause-done c = λ w s v a count. quiet_done s v w a count

pub returns-clause-cut : goal.returns-clause-cut
returns-clause-cut c = λ w image s v a. quiet_cut s v w image a

pub returns-clause-cut_call : goal.returns-clause-cut_call
returns-clause-cut_call c = λ w image s v a. quiet_cut_call s v w image a

pub returns-clause-named : goal.returns-clause-named
returns-clause-named c = λ w mid r a quiet within. (quiet_kept r w mid a quiet within).named

pub returns-clause-settings : goal.returns-clause-settings
returns-clause-settings c = λ w mid r a quiet within. (quiet_kept r w mid a quiet within).settings
