use Rattle.std.proofs.Common.{length}
use Rattle.ls_rebooting.proofs.clearing.+push_removals.Given as goal

abbrev pub decreases-push_removals : goal.decreases-push_removals
decreases-push_removals l = length l.users.now
