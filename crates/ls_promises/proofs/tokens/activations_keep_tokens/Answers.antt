use Rattle.ls_promises.proofs.ActivationLemmas.{tokens_kept, tokens_more}
use Rattle.ls_promises.proofs.tokens.activations_keep_tokens.Goals as goal

pub returns-clause-same : goal.returns-clause-same
returns-clause-same c = λ slots s user moment drawn owner. tokens_kept slots s user moment drawn owner

pub returns-clause-count : goal.returns-clause-count
returns-clause-count c = λ slots s user moment drawn is. tokens_more slots s user moment drawn is
