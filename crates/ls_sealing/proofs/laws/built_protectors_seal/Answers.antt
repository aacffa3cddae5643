use Rattle.std.proofs.Common.{refl, sym, subst}
use Rattle.ls_sealing.specs.Protectors.{Held}
use Rattle.ls_sealing.specs.Seals.{Seals, ShowsMetrics, SealsToken}
use Rattle.ls_sealing.specs.Draws.{credential_draw, token_draw}
use Rattle.ls_sealing.specs.Building.{for_credential, for_token, protector_for, writing_of}
use Rattle.ls_sealing.proofs.WritingLemmas.{is_held}
use Rattle.ls_sealing.proofs.CredentialLemmas.{is_draw, seals, shows_metrics}
use Rattle.ls_sealing.proofs.TokenLemmas.{is_token_draw, seals_token}
use Rattle.ls_sealing.proofs.laws.built_protectors_seal.Goals as goal

pub returns-clause-credential : goal.returns-clause-credential
returns-clause-credential c = λ w user id slot cr s drawn fits is are.
    let offer = for_credential cr s in
    subst (λ (h : Held). Seals id h cr s) (sym (is_held (protector_for user id offer) (writing_of id slot offer drawn w.gk_key) w slot fits refl))
    (seals id cr s (credential_draw cr.kind drawn) w.gk_key is slot (is_draw slot cr.kind drawn are))

pub returns-clause-metrics : goal.returns-clause-metrics
returns-clause-metrics c = λ w user id slot cr s drawn fits is are.
    let offer = for_credential cr s in
    subst (λ (h : Held). ShowsMetrics h cr s) (sym (is_held (protector_for user id offer) (writing_of id slot offer drawn w.gk_key) w slot fits refl))
    (shows_metrics id cr s (credential_draw cr.kind drawn) w.gk_key is slot (is_draw slot cr.kind drawn are))

pub returns-clause-token : goal.returns-clause-token
returns-clause-token c = λ w user id slot bytes p0 p1 s drawn fits is half whole are.
    let offer = for_token bytes s.version p0 in
    subst (λ (h : Held). SealsToken h p1 bytes s p0) (sym (is_held (protector_for user id offer) (writing_of id slot offer drawn w.gk_key) w slot fits refl))
    (seals_token bytes s p0 p1 (token_draw drawn) w.gk_key is half whole slot (is_token_draw slot drawn are))
