use Rattle.std.proofs.Common.{length}
use Rattle.ls_activating.proofs.freeing.+tidy_each.Given as goal

abbrev pub decreases-tidy_each : goal.decreases-tidy_each
decreases-tidy_each g l = length l.tokens.now
