use Rattle.ls_activating.proofs.carrying.carried.Given as goal

abbrev pub ghost-commit_change : goal.ghost-commit_change
ghost-commit_change g a = g.before
