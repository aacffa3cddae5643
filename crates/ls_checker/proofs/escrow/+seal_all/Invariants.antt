use Rattle.std.proofs.Common.{length}
use Rattle.ls_checker.proofs.escrow.+seal_all.Given as goal

abbrev pub decreases-seal_all : goal.decreases-seal_all
decreases-seal_all l = length l.ids.now
