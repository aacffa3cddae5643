use Rattle.std.proofs.Common.{length}
use Rattle.ls_retiring.proofs.erasing.+push_erasing.Given as goal

abbrev pub decreases-push_erasing : goal.decreases-push_erasing
decreases-push_erasing l = length l.all.now
