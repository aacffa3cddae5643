use Rattle.ls_promises.proofs.OpeningLemmas.{opened_by, armed_opened, closed_along}
use Rattle.ls_promises.proofs.unlocks.only_unlocks_open.Goals as goal

pub returns-clause-opened : goal.returns-clause-opened
returns-clause-opened c = λ slots s k moment drawn user closed other. let h = opened_by slots s moment drawn user k in h.0 closed other

pub returns-clause-captured : goal.returns-clause-captured
returns-clause-captured c = λ slots s k moment drawn user free other. let h = opened_by slots s moment drawn user k in h.1 free other

pub returns-clause-armed : goal.returns-clause-armed
returns-clause-armed c = λ slots s moment drawn user other closed. armed_opened slots s moment drawn user other closed

pub returns-clause-history : goal.returns-clause-history
returns-clause-history c = λ slots s events user closed none. closed_along slots user s events closed none
