use Rattle.std.proofs.Common.{◌≡◌, ◌∙◌, ap, ℕ}
use Rattle.std.specs.Prelude.{is_some}
use Rattle.ls_credential.specs.declared.kind.Kind.{Kind}
use Rattle.ls_credential.specs.Rules.{KindAndText}
use Rattle.ls_sealing.specs.Protectors.{credential, is_enrolled}
use Rattle.ls_sealing.specs.Draws.{piece, device_place, credential_draw}
use Rattle.ls_sealing.specs.Building.{new_share}
use Rattle.ls_sealing.proofs.PlanLemmas.{credential_pushed}
use Rattle.ls_sealing.proofs.credential.credential_plan.Goals as goal

pub returns : goal.returns
returns c =
    let slot = c.args.place.now.slot in
    let drawn = c.args.drawn.now in
    let kind : c.credential.inside.kind ≡ c.args.credential.now.kind = ap (λ (v : KindAndText). v.kind) c.credential.view_is in
    let enrolled = c.is_enrolled-enrolled.ensures.same ∙ ap (λ (k : Kind). is_enrolled (is_some slot) (credential k)) kind in
    let value = c.piece_at-value.ensures.same ∙ ap (λ (n : ℕ). piece n 16 drawn) (c.device_place.ensures.place ∙ ap device_place kind) in
    let share = c.share.ensures.same ∙ ap (λ (k : Kind). new_share slot (credential_draw k drawn)) kind in
    let protector = c.as_slice-protector.ensures.same ∙ c.in_ok-protector.ensures.same in
    record {
      built = credential_pushed c.args.place.now.user c.args.place.now.id slot c.args.credential.now c.args.secret.now drawn c.args.handle.now
          c.new-plan.result c.push_devices.new.plan c.push_files.new.plan c.is_enrolled-enrolled.result c.piece_at-key.result c.weaver_key.result c.piece_at-value.result c.as_slice-protector.result.now c.args.stretched.now c.share.result
          c.new-plan.ensures.empty c.in_ok-push_devices.ensures.pushed c.in_ok-push_files.ensures.pushed
          enrolled c.piece_at-key.ensures.same c.weaver_key.ensures.same value protector c.requires.stretched share;
    }
