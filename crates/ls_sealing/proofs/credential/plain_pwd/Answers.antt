use Rattle.std.proofs.Common.{None, sym, subst, arith}
use Rattle.ls_formats.specs.Contents.{AreBytes}
use Rattle.ls_sealing.proofs.ByteLemmas.{piece_are}
use Rattle.ls_sealing.proofs.CredentialLemmas.{usual_pwd, not_empty}
use Rattle.ls_sealing.proofs.credential.plain_pwd.Goals as goal

pub invariant_of-result : goal.invariant_of-result
invariant_of-result c =
    let salt = piece_are 16 0 16 c.args.salt.now (record { long = c.requires.salt; each = λ i. omega (arith, c.type_inv.salt i) }) (omega arith) in
    usual_pwd c.args.kind c.piece_at.result None (not_empty c.args.kind c.requires.kind) (subst (AreBytes 16) (sym c.piece_at.ensures.same) salt) tt
