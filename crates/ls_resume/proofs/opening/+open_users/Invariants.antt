use Rattle.std.proofs.Common.{length}
use Rattle.ls_resume.proofs.opening.+open_users.Given as goal

abbrev pub decreases-open_users : goal.decreases-open_users
decreases-open_users g l = length l.found.now
