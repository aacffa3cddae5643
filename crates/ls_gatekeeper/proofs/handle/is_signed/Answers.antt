use Rattle.std.proofs.Common.{◌∙◌}
use Rattle.std.specs.Prelude.{bytes_eq}
use Rattle.ls_board.specs.Gatekeeper.{signed}
use Rattle.ls_gatekeeper.proofs.handle.is_signed.Goals as goal

pub returns : goal.returns
returns c =
    c.eq.ensures
    ∙ (λ i. bytes_eq c.args.handle.now (c.signed.ensures i))
    ∙ (λ i. bytes_eq c.args.handle.now (signed c.args.device.now (c.sid_of.ensures i) (c.salt_of.ensures i) c.args.password.now))
