use Rattle.std.proofs.Common.{◌≡◌, ◌∙◌, ap}
use Rattle.std.specs.Prelude.{is_some}
use Rattle.ls_credential.specs.declared.kind.Kind.{Kind}
use Rattle.ls_credential.specs.Rules.{KindAndText}
use Rattle.ls_sealing.specs.Building.{credential_writing, for_credential, protector_for}
use Rattle.ls_sealing.specs.Draws.{credential_draw}
use Rattle.ls_sealing.specs.Protectors.{credential}
use Rattle.ls_protector.specs.Parts.{parts_of, protector_at}
use Rattle.ls_protector.proofs.DraftLemmas.{drafted_touch}
use Rattle.ls_protector.proofs.drafting.draft_by.Goals as goal

pub of-requires : goal.of-requires
of-requires c =
    let place = c.args.place.now in
    let k = c.args.credential.now in
    let kind : c.credential.inside.kind ≡ k.kind = ap (λ (v : KindAndText). v.kind) c.credential.view_is in
    record {
      touches = drafted_touch (protector_for place.user place.id (for_credential k c.args.secret.now)) place.slot (credential_writing place.slot k c.args.secret.now (credential_draw k.kind c.args.drawn.now) c.args.handle.now) _ _
          (c.in_ok-parts.ensures.same ∙ ap (λ (x : Kind). parts_of (is_some place.slot) (protector_at place (credential x)) place.slot) kind) c.in_ok-plan.ensures.built;
    }
