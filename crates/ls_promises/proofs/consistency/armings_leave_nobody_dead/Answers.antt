use Rattle.ls_promises.proofs.SettledLemmas.{settled_empty, settled_step, settled_restart, settled_history}
use Rattle.ls_promises.proofs.consistency.armings_leave_nobody_dead.Goals as goal

pub returns-clause-empty : goal.returns-clause-empty
returns-clause-empty c = λ s none idle. settled_empty s none idle

pub returns-clause-command : goal.returns-clause-command
returns-clause-command c = λ slots s k moment drawn was. settled_step slots s k moment drawn was

pub returns-clause-restart : goal.returns-clause-restart
returns-clause-restart c = λ s boot books good. settled_restart s boot books good

pub returns-clause-history : goal.returns-clause-history
returns-clause-history c = λ slots s events good was. settled_history slots s events good was
