use Rattle.ls_promises.proofs.ConsistentLemmas.{consistent_empty, consistent_step, consistent_restart, consistent_history}
use Rattle.ls_promises.proofs.consistency.states_stay_consistent.Goals as goal

pub returns-clause-empty : goal.returns-clause-empty
returns-clause-empty c = λ s users captured. consistent_empty s users captured

pub returns-clause-command : goal.returns-clause-command
returns-clause-command c = λ slots s k moment drawn sound was. consistent_step slots s k moment drawn sound was

pub returns-clause-restart : goal.returns-clause-restart
returns-clause-restart c = λ s boot books was. consistent_restart s boot books was

pub returns-clause-history : goal.returns-clause-history
returns-clause-history c = λ slots s events sound was. consistent_history slots s events sound was
