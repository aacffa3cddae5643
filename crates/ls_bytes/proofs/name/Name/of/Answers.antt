use Rattle.std.proofs.Common.{rules}
use Rattle.ls_bytes.proofs.NameLemmas.{is_name}
use Rattle.ls_bytes.proofs.name.Name.of.Goals as goal

pub invariant_of-result : goal.invariant_of-result
invariant_of-result c = search (rules, is_name)

pub returns-clause-named : goal.returns-clause-named
returns-clause-named c = search (rules, is_name)
