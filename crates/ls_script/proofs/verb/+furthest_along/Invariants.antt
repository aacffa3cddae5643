use Rattle.std.proofs.Common.{length}
use Rattle.ls_script.proofs.verb.+furthest_along.Given as goal

abbrev pub decreases-furthest_along : goal.decreases-furthest_along
decreases-furthest_along l = length l.verbs.now
