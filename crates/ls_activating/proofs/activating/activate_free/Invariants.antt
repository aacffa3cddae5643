use Rattle.ls_activating.proofs.activating.activate_free.Given as goal

abbrev pub ghost-carried : goal.ghost-carried
ghost-carried g a = a.x.now
