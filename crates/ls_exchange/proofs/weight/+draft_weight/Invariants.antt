use Rattle.std.proofs.Common.{length}
use Rattle.ls_exchange.proofs.weight.+draft_weight.Given as goal

abbrev pub decreases-draft_weight : goal.decreases-draft_weight
decreases-draft_weight l = length l.drafts.now
