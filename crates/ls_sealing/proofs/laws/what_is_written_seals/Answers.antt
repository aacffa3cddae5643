use Rattle.ls_sealing.specs.Draws.{credential_draw, token_draw}
use Rattle.ls_sealing.proofs.CredentialLemmas.{is_draw, seals, shows_metrics}
use Rattle.ls_sealing.proofs.TokenLemmas.{is_token_draw, seals_token}
use Rattle.ls_sealing.proofs.laws.what_is_written_seals.Goals as goal

pub returns-clause-credential : goal.returns-clause-credential
returns-clause-credential c = λ id slot cr s drawn gk_key is are. seals id cr s (credential_draw cr.kind drawn) gk_key is slot (is_draw slot cr.kind drawn are)

pub returns-clause-metrics : goal.returns-clause-metrics
returns-clause-metrics c = λ id slot cr s drawn gk_key is are. shows_metrics id cr s (credential_draw cr.kind drawn) gk_key is slot (is_draw slot cr.kind drawn are)

pub returns-clause-token : goal.returns-clause-token
returns-clause-token c = λ id slot bytes p0 p1 s drawn gk_key is half whole are. seals_token bytes s p0 p1 (token_draw drawn) gk_key is half whole slot (is_token_draw slot drawn are)
