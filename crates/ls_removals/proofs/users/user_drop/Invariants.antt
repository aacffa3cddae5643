use Rattle.ls_removals.proofs.users.user_drop.Given as goal

abbrev pub ghost-let_user_go : goal.ghost-let_user_go
ghost-let_user_go g a = a.x.now
