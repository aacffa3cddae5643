use Rattle.ls_promises.proofs.RuleLemmas.{rules_empty, rules_step, rules_history}
use Rattle.ls_promises.proofs.consistency.credentials_keep_their_rules.Goals as goal

pub returns-clause-empty : goal.returns-clause-empty
returns-clause-empty c = λ s users. rules_empty s users

pub returns-clause-command : goal.returns-clause-command
returns-clause-command c = λ slots s k moment drawn good was. rules_step slots s k moment drawn good was

pub returns-clause-history : goal.returns-clause-history
returns-clause-history c = λ slots s events good was. rules_history slots s events good was
