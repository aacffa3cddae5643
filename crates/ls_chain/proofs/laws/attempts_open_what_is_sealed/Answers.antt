use Rattle.ls_chain.proofs.SealedEndLemmas.{attempt_opens}
use Rattle.ls_chain.proofs.TokenEndLemmas.{token_opens}
use Rattle.ls_chain.proofs.laws.attempts_open_what_is_sealed.Goals as goal

pub returns-clause-credential : goal.returns-clause-credential
returns-clause-credential c = λ w user id k d s slot moment. attempt_opens w user id k d s slot moment

pub returns-clause-token : goal.returns-clause-token
returns-clause-token c = λ w user id bytes offered s p0 slot. token_opens w user id bytes offered s p0 slot
