use Rattle.ls_edits.proofs.PutRowLemmas.{of_put, row_put, others_put}
use Rattle.ls_edits.proofs.rows.a_put_row_is_among_the_rows.Goals as goal

pub returns-clause-of : goal.returns-clause-of
returns-clause-of c = of_put

pub returns-clause-its : goal.returns-clause-its
returns-clause-its c = row_put

pub returns-clause-others : goal.returns-clause-others
returns-clause-others c = others_put
