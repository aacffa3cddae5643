use Rattle.ls_standing.proofs.AskingLemmas.{reading_stands, check_stands, asked_cut}
use Rattle.ls_standing.proofs.changes.asking_a_device_counts_for_its_user.Goals as goal

pub returns-clause-reading : goal.returns-clause-reading
returns-clause-reading c = λ w s v row n slot key moment is stands here. reading_stands w s v row is stands here n slot key moment

pub returns-clause-check : goal.returns-clause-check
returns-clause-check c = λ w s v row handle password moment counter is stands here. check_stands w s v row is stands here handle password moment counter

pub returns-clause-cut : goal.returns-clause-cut
returns-clause-cut c = asked_cut
