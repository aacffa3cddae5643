use Rattle.ls_removals.proofs.letting.let_tokens_go.Given as goal

abbrev pub ghost-let_go : goal.ghost-let_go
ghost-let_go g a = g.before
