use Rattle.ls_standing.proofs.QuietLemmas.{durably_left}
use Rattle.ls_standing.proofs.kept.durable_worlds_are_left.Goals as goal

pub returns : goal.returns
returns c = durably_left
