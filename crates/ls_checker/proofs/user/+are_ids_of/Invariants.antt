use Rattle.std.proofs.Common.{length}
use Rattle.ls_checker.proofs.user.+are_ids_of.Given as goal

abbrev pub decreases-are_ids_of : goal.decreases-are_ids_of
decreases-are_ids_of l = length l.ids.now
