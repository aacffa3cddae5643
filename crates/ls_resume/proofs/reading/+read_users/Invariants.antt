use Rattle.std.proofs.Common.{length}
use Rattle.ls_resume.proofs.reading.+read_users.Given as goal

abbrev pub decreases-read_users : goal.decreases-read_users
decreases-read_users g l = length l.users.now
