use Rattle.std.proofs.Common.{length}
use Rattle.ls_turn.proofs.session.abandon_all.Given as goal

abbrev pub decreases-loop-one : goal.decreases-loop-one
decreases-loop-one l = length l.retired.items
