use Rattle.ls_promises.proofs.OrderLemmas.{order_empty, order_history}
use Rattle.ls_promises.proofs.limits.numbers_ascend.Goals as goal

pub returns-clause-empty : goal.returns-clause-empty
returns-clause-empty c = λ s arming opened captured. order_empty s arming opened captured

pub returns-clause-history : goal.returns-clause-history
returns-clause-history c = λ slots s events ordered. order_history slots s events ordered
