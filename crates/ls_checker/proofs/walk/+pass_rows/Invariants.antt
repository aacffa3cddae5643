use Rattle.std.proofs.Common.{length}
use Rattle.ls_checker.proofs.walk.+pass_rows.Given as goal

abbrev pub decreases-pass_rows : goal.decreases-pass_rows
decreases-pass_rows l = length l.rows.now
