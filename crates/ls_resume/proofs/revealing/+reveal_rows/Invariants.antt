use Rattle.std.proofs.Common.{length}
use Rattle.ls_resume.proofs.revealing.+reveal_rows.Given as goal

abbrev pub decreases-reveal_rows : goal.decreases-reveal_rows
decreases-reveal_rows g l = length l.secrets.now
