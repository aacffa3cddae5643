use Rattle.std.proofs.Common.{length}
use Rattle.ls_credential.proofs.stretch.+longest_by.Given as goal

abbrev pub decreases-longest_by : goal.decreases-longest_by
decreases-longest_by l = length l.text.now
