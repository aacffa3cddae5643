use Rattle.ls_removals.proofs.tokens.token_drop.Given as goal

abbrev pub ghost-let_tokens_go : goal.ghost-let_tokens_go
ghost-let_tokens_go g a = a.x.now
