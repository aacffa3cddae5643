use Rattle.std.proofs.Common.{length}
use Rattle.ls_tidying.proofs.by_id.+says_id.Given as goal

abbrev pub decreases-says_id : goal.decreases-says_id
decreases-says_id l = length l.names.now
