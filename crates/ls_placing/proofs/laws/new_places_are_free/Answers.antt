use Rattle.ls_placing.proofs.ClearLemmas.{place_is_new}
use Rattle.ls_placing.proofs.laws.new_places_are_free.Goals as goal

pub returns : goal.returns
returns c = place_is_new
