use Rattle.ls_sealing.proofs.MatchLemmas.{one_kind, one_secret, one_half, one_token_secret}
use Rattle.ls_sealing.proofs.laws.what_is_held_fixes_the_secret.Goals as goal

pub returns-clause-kind : goal.returns-clause-kind
returns-clause-kind c = one_kind

pub returns-clause-secret : goal.returns-clause-secret
returns-clause-secret c = one_secret

pub returns-clause-half : goal.returns-clause-half
returns-clause-half c = one_half

pub returns-clause-token : goal.returns-clause-token
returns-clause-token c = one_token_secret
