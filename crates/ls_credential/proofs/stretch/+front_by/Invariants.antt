use Rattle.std.proofs.Common.{length}
use Rattle.ls_credential.proofs.stretch.+front_by.Given as goal

abbrev pub decreases-front_by : goal.decreases-front_by
decreases-front_by l = length l.text.now
