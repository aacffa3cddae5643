use Rattle.ls_removals.proofs.letting.let_go.Given as goal

abbrev pub ghost-commit_change : goal.ghost-commit_change
ghost-commit_change g a = g.before
