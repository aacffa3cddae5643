use Rattle.ls_naming.proofs.JournalLemmas.{changed_append, changed_same}
use Rattle.ls_naming.proofs.laws.entries_change_in_order.Goals as goal

pub returns-clause-joined : goal.returns-clause-joined
returns-clause-joined c = changed_append

pub returns-clause-same : goal.returns-clause-same
returns-clause-same c = λ old new places format all. changed_same old new format places all
