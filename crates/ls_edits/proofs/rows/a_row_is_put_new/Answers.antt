use Rattle.ls_edits.proofs.PutLemmas.{put_in}
use Rattle.ls_edits.proofs.rows.a_row_is_put_new.Goals as goal

pub returns : goal.returns
returns c = record { holds = λ w r v row u is holds none sound new. put_in w r row v is holds sound u none new }
