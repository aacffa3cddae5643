use Rattle.ls_changing.proofs.changing.change.Given as goal

abbrev pub ghost-carried : goal.ghost-carried
ghost-carried g a = a.x.now
