use Rattle.ls_turn.proofs.StoredLemmas.{agrees_left}
use Rattle.ls_turn.proofs.laws.images_stand_for_the_vault_of_a_session.Goals as goal

pub returns : goal.returns
returns c = agrees_left
