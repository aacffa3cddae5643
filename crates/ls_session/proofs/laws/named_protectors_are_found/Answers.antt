use Rattle.ls_session.proofs.KeepLemmas.{named_places}
use Rattle.ls_session.proofs.laws.named_protectors_are_found.Goals as goal

pub returns : goal.returns
returns c = named_places
