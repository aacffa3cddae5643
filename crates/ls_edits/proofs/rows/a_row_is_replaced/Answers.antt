use Rattle.ls_edits.proofs.PutLemmas.{replaced, put_untouched}
use Rattle.ls_edits.proofs.rows.a_row_is_replaced.Goals as goal

pub returns-clause-holds : goal.returns-clause-holds
returns-clause-holds c = λ w r v old row change is holds has user sound new. replaced w r row v is holds sound old change has user new

pub returns-clause-untouched : goal.returns-clause-untouched
returns-clause-untouched c = put_untouched
