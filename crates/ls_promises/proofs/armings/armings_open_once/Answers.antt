use Rattle.std.proofs.Common.{arith, ap}
use Rattle.ls_promises.proofs.ArmingLemmas.{left, spent_along, times_is, at_most_once}
use Rattle.ls_vault.specs.Histories.{history}
use Rattle.ls_promises.proofs.armings.armings_open_once.Goals as goal

pub returns-clause-once : goal.returns-clause-once
returns-clause-once c = λ slots s events none. omega (arith, times_is (history slots s events), spent_along slots s events none, at_most_once s.vault.arming)

pub returns-clause-never : goal.returns-clause-never
returns-clause-never c = λ slots s events unarmed none. omega (arith, times_is (history slots s events), spent_along slots s events none, ap left unarmed)
