use Rattle.ls_sealing.proofs.ApartLemmas.{spare}
use Rattle.ls_sealing.proofs.laws.protectors_spare_each_other.Goals as goal

pub returns : goal.returns
returns c = spare
