use Rattle.ls_script.proofs.BeginningLemmas.{same_reading}
use Rattle.ls_script.proofs.laws.lines_are_read_by_their_beginning.Goals as goal

pub returns : goal.returns
returns c = record { same = same_reading }
