use Rattle.std.proofs.Common.{length}
use Rattle.ls_credential.proofs.credential.+repeats.Given as goal

abbrev pub decreases-repeats : goal.decreases-repeats
decreases-repeats l = length l.text.now
