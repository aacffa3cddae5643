use Rattle.ls_edits.proofs.DropLemmas.{dropped, drop_untouched}
use Rattle.ls_edits.proofs.rows.a_row_is_dropped.Goals as goal

pub returns-clause-holds : goal.returns-clause-holds
returns-clause-holds c = λ w r v user is holds may. dropped w r user is v holds may

pub returns-clause-untouched : goal.returns-clause-untouched
returns-clause-untouched c = λ w r user is. drop_untouched w r user is
