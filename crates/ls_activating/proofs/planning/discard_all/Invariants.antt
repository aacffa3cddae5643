use Rattle.ls_activating.proofs.planning.discard_all.Given as goal

abbrev pub decreases-loop-draft : goal.decreases-loop-draft
decreases-loop-draft l = l.drafts.len
