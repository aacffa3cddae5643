use Rattle.ls_formats.proofs.ApartLemmas.{names_apart}
use Rattle.ls_formats.proofs.laws.names_are_apart.Goals as goal

pub returns : goal.returns
returns c = names_apart
