use Rattle.ls_promises.proofs.OpenedLemmas.{unlocked, counters_cleared, resumed_opens}
use Rattle.ls_promises.proofs.unlocks.unlocks_open.Goals as goal

pub returns-clause-opened : goal.returns-clause-opened
returns-clause-opened c = λ slots s k moment drawn user is. let h = unlocked slots s moment drawn user k is in h.0

pub returns-clause-captured : goal.returns-clause-captured
returns-clause-captured c = λ slots s k moment drawn user is prepared. let h = unlocked slots s moment drawn user k is in h.1 prepared

pub returns-clause-cleared : goal.returns-clause-cleared
returns-clause-cleared c = λ slots s user offered moment drawn r is. counters_cleared slots s moment drawn user offered r is

pub returns-clause-armed : goal.returns-clause-armed
returns-clause-armed c = λ slots s moment drawn arming rows user there among is. resumed_opens slots s moment drawn arming rows user there among is
