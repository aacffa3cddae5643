use Rattle.std.proofs.Common.{length}
use Rattle.ls_resume.proofs.arming.+push_files.Given as goal

abbrev pub decreases-push_files : goal.decreases-push_files
decreases-push_files l = length l.rows.now
