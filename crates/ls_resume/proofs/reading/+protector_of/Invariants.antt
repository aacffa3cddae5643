use Rattle.std.proofs.Common.{length}
use Rattle.ls_resume.proofs.reading.+protector_of.Given as goal

abbrev pub decreases-protector_of : goal.decreases-protector_of
decreases-protector_of l = length l.rows.now
