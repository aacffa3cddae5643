use Rattle.ls_promises.proofs.FreshLemmas.{fresh_first, fresh_odd, fresh_small}
use Rattle.ls_promises.proofs.fresh.fresh_numbers_are_first.Goals as goal

pub returns-clause-first : goal.returns-clause-first
returns-clause-first c = fresh_first

pub returns-clause-odd : goal.returns-clause-odd
returns-clause-odd c = fresh_odd

pub returns-clause-small : goal.returns-clause-small
returns-clause-small c = fresh_small
