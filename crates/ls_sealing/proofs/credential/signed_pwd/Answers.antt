use Rattle.std.proofs.Common.{◌≡◌, ◌∙◌, Some, sym, subst, arith}
use Rattle.ls_formats.specs.Contents.{AreBytes, pwd}
use Rattle.ls_sealing.proofs.ByteLemmas.{piece_are, whole_piece}
use Rattle.ls_sealing.proofs.CredentialLemmas.{usual_pwd, not_empty}
use Rattle.ls_sealing.proofs.credential.signed_pwd.Goals as goal

pub invariant_of-result : goal.invariant_of-result
invariant_of-result c =
    let salt = piece_are 16 0 16 c.args.salt.now (record { long = c.requires.salt; each = λ i. omega (arith, c.type_inv.salt i) }) (omega arith) in
    let handle = piece_are 49 0 49 c.args.handle.now (record { long = c.requires.handle; each = λ i. omega (arith, c.type_inv.handle i) }) (omega arith) in
    usual_pwd c.args.kind c.piece_at.result (Some c.piece_at-2.result) (not_empty c.args.kind c.requires.kind) (subst (AreBytes 16) (sym c.piece_at.ensures.same) salt) (subst (AreBytes 49) (sym c.piece_at-2.ensures.same) handle)

pub returns : goal.returns
returns c =
    let salt : c.piece_at.result ≡ c.args.salt.now = c.piece_at.ensures.same ∙ whole_piece 16 c.args.salt.now c.requires.salt in
    let handle : c.piece_at-2.result ≡ c.args.handle.now = c.piece_at-2.ensures.same ∙ whole_piece 49 c.args.handle.now c.requires.handle in
    record { same = λ i. pwd c.args.kind 11 3 1 (salt i) (Some (handle i)) }
