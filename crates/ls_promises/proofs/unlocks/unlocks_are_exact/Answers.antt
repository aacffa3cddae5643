use Rattle.ls_promises.proofs.UnlockLemmas.{by_credential, by_token, by_arming}
use Rattle.ls_promises.proofs.unlocks.unlocks_are_exact.Goals as goal

pub returns-clause-credential : goal.returns-clause-credential
returns-clause-credential c = by_credential

pub returns-clause-token : goal.returns-clause-token
returns-clause-token c = by_token

pub returns-clause-arming : goal.returns-clause-arming
returns-clause-arming c = by_arming
