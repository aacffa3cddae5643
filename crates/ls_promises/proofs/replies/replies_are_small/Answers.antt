use Rattle.ls_promises.proofs.ReplyLemmas.{few_step}
use Rattle.ls_promises.proofs.replies.replies_are_small.Goals as goal

pub returns : goal.returns
returns c = record { few = λ slots s k moment drawn sound ordered. few_step slots s moment drawn sound ordered k }
