use Rattle.ls_lives.proofs.HistoryLemmas.{stretches}
use Rattle.ls_lives.proofs.histories.stretches_are_histories.Goals as goal

pub returns : goal.returns
returns c = λ slots s events before stretch more is. stretches slots s events before stretch more is
