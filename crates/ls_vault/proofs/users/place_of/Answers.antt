use Rattle.std.proofs.Common.{sym, arith}
use Rattle.ls_vault.proofs.UserLemmas.{none_changed}
use Rattle.ls_vault.proofs.users.place_of.Goals as goal

pub returns-else-at-users-clause-none : goal.returns-else-at-users-clause-none
returns-else-at-users-clause-none c = λ change. sym (none_changed c.args.number change c.args.users.now (omega (arith, c.front_of-at.ensures.count)))
