use Rattle.ls_gcm.proofs.RoundLemmas.{column_is}
use Rattle.ls_gcm.proofs.byte.column.Goals as goal

pub returns : goal.returns
returns c =
    rw (c.rotate_right.ensures, c.rotate_right-2.ensures, c.rotate_right-3.ensures)
    (column_is c.args.a c.args.b c.args.c c.args.d c.args.key)
