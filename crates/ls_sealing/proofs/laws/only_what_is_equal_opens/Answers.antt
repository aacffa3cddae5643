use Rattle.ls_sealing.proofs.MatchLemmas.{only_equal, only_equal_token}
use Rattle.ls_sealing.proofs.laws.only_what_is_equal_opens.Goals as goal

pub returns-clause-credential : goal.returns-clause-credential
returns-clause-credential c = only_equal

pub returns-clause-token : goal.returns-clause-token
returns-clause-token c = only_equal_token
