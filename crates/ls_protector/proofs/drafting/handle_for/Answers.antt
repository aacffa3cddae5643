use Rattle.std.proofs.Common.{◌≡◌, ◌∙◌, true, false, ap, None}
use Rattle.std.specs.Prelude.{is_some}
use Rattle.std.proofs.lemmas.Result.{err_from_is_err_and}
use Rattle.ls_credential.specs.declared.kind.Kind.{Kind}
use Rattle.ls_credential.specs.Rules.{KindAndText}
use Rattle.ls_reading.proofs.SeeLemmas.{sees_known, sees_err}
use Rattle.ls_sealing.specs.Building.{new_handle}
use Rattle.ls_sealing.specs.Draws.{credential_draw}
use Rattle.ls_sealing.specs.Protectors.{credential, is_enrolled}
use Rattle.ls_protector.proofs.DraftLemmas.{no_handle, handle_signed, handle_salt_is}
use Rattle.ls_protector.proofs.drafting.handle_for.Goals as goal

pub returns-then-not-is_enrolled-clause-sees : goal.returns-then-not-is_enrolled-clause-sees
returns-then-not-is_enrolled-clause-sees g c =
    let place = c.args.place.now in
    let k = c.args.credential.now in
    let kind : c.credential.inside.kind ≡ k.kind = ap (λ (v : KindAndText). v.kind) c.credential.view_is in
    let same = c.is_enrolled.ensures.same ∙ ap (λ (x : Kind). is_enrolled (is_some place.slot) (credential x)) kind in
    let none : is_enrolled (is_some place.slot) (credential k.kind) ≡ false = let t = c.if-not-is_enrolled.true in cc in
    sees_known (λ w. new_handle place.id place.slot k (credential_draw k.kind c.args.drawn.now) w.gk_key) (g.B.Board.sight c.args.board.now) None
    (λ w. no_handle place.id place.slot k (credential_draw k.kind c.args.drawn.now) none w.gk_key)

pub returns-in_err-handle-clause-sees : goal.returns-in_err-handle-clause-sees
returns-in_err-handle-clause-sees g c =
    let place = c.args.place.now in
    let k = c.args.credential.now in
    let p = err_from_is_err_and c.from_residual.result c.from_residual.ensures.1 in
    rw (p.1, p.2) (sees_err _ (g.B.Board.sight c.args.board.now) (g.B.Board.sight c.sign.new.board) (λ w. new_handle place.id place.slot k (credential_draw k.kind c.args.drawn.now) w.gk_key) c.in_err-handle.field-0.0 c.in_err-handle.ensures.sees)

pub returns-clause-sees : goal.returns-clause-sees
returns-clause-sees g c =
    let place = c.args.place.now in
    let k = c.args.credential.now in
    let d = credential_draw k.kind c.args.drawn.now in
    let kind : c.credential.inside.kind ≡ k.kind = ap (λ (v : KindAndText). v.kind) c.credential.view_is in
    let same = c.is_enrolled.ensures.same ∙ ap (λ (x : Kind). is_enrolled (is_some place.slot) (credential x)) kind in
    let some : is_enrolled (is_some place.slot) (credential k.kind) ≡ true = let t = c.if-not-is_enrolled.false in cc in
    handle_signed place.id place.slot k d (g.B.Board.sight c.args.board.now) (g.B.Board.sight c.sign.new.board) c.in_ok-handle.handle _ c.args.stretched.now _ some
    (c.handle_salt.ensures.same ∙ handle_salt_is place.slot k.kind some c.args.drawn.now) c.gatekeeper_password-password.ensures.same c.requires.stretched c.in_ok-handle.ensures.sees
