use Rattle.ls_exchange.proofs.lists.abandon_all.Given as goal

abbrev pub decreases-loop-one : goal.decreases-loop-one
decreases-loop-one l = l.staged.len
