use Rattle.std.proofs.Common.{length}
use Rattle.ls_tidying.proofs.tidying.+longest.Given as goal

abbrev pub decreases-longest : goal.decreases-longest
decreases-longest l = length l.names.now
