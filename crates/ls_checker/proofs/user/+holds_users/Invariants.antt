use Rattle.std.proofs.Common.{length}
use Rattle.ls_checker.proofs.user.+holds_users.Given as goal

abbrev pub decreases-holds_users : goal.decreases-holds_users
decreases-holds_users l = length l.rows.now
