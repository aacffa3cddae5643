use Rattle.std.proofs.Common.{length}
use Rattle.ls_opening.proofs.walk.+pass_rows.Given as goal

abbrev pub decreases-pass_rows : goal.decreases-pass_rows
decreases-pass_rows g l = length l.rows.now
