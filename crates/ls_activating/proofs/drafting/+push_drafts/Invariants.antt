use Rattle.std.proofs.Common.{length}
use Rattle.ls_activating.proofs.drafting.+push_drafts.Given as goal

abbrev pub decreases-push_drafts : goal.decreases-push_drafts
decreases-push_drafts l = length l.tokens.now
