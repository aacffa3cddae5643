use Rattle.std.proofs.Common.{length}
use Rattle.ls_sweep.proofs.slot_files.+pass_rows.Given as goal

abbrev pub decreases-pass_rows : goal.decreases-pass_rows
decreases-pass_rows g l = length l.rows.now
