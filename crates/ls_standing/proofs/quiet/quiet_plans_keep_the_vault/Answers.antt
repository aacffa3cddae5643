use Rattle.ls_standing.proofs.QuietLemmas.{plan_kept, quiet_joined, plan_done, plan_failed, plan_cut}
use Rattle.ls_standing.proofs.quiet.quiet_plans_keep_the_vault.Goals as goal

pub returns-clause-done : goal.returns-clause-done
returns-clause-done c = λ w s v plan. plan_done s v w plan

pub returns-clause-failed : goal.returns-clause-failed
returns-clause-failed c = λ w mid s v plan n a. plan_failed s v w mid plan n a

pub returns-clause-cut : goal.returns-clause-cut
returns-clause-cut c = λ w image s v plan. plan_cut s v w image plan

pub returns-clause-named : goal.returns-clause-named
returns-clause-named c = λ w r plan quiet. (plan_kept r w plan quiet).named

pub returns-clause-settings : goal.returns-clause-settings
returns-clause-settings c = λ w r plan quiet. (plan_kept r w plan quiet).settings

pub returns-clause-joined : goal.returns-clause-joined
returns-clause-joined c = quiet_joined
