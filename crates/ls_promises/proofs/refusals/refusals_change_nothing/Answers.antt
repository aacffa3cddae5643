use Rattle.ls_promises.proofs.RefusalLemmas.{refused_kept}
use Rattle.ls_promises.proofs.refusals.refusals_change_nothing.Goals as goal

pub returns : goal.returns
returns c = record { kept = λ slots s command moment drawn why is other. refused_kept slots s moment drawn command why is other }
