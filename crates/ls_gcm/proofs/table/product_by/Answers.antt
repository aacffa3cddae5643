use Rattle.std.proofs.Common.{◌*◌, ◌+◌, arith, refl}
use Rattle.ls_gcm.specs.Blocks.{product_of}
use Rattle.ls_gcm.proofs.ProductLemmas.{nibble_more}
use Rattle.ls_gcm.proofs.table.product_by.Goals as goal

pub nibbles-init : goal.nibbles-init
unfolding product_of
nibbles-init c = λ h held. refl

pub nibbles-preserved : goal.nibbles-preserved
nibbles-preserved c = λ h held.
    nibble_more (4 * c.nibbles.i) (4 * (c.nibbles.i + 1)) c.args.x h c.nibbles.z _ _ (omega arith) (c.nibbles.invariant h held)
    c.times_x4.ensures (held _ (omega arith))
