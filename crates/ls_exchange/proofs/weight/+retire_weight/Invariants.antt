use Rattle.std.proofs.Common.{length}
use Rattle.ls_exchange.proofs.weight.+retire_weight.Given as goal

abbrev pub decreases-retire_weight : goal.decreases-retire_weight
decreases-retire_weight l = length l.retire.now
