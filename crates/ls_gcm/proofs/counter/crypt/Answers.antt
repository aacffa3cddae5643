use Rattle.std.proofs.Common.{◌-◌, ◌*◌, arith, refl}
use Rattle.ls_gcm.proofs.CounterLemmas.{crypted_more, crypted_all, crypted_none}
use Rattle.ls_gcm.proofs.counter.crypt.Goals as goal

pub parts-init : goal.parts-init
parts-init c = crypted_none c.args.cipher.now c.args.iv.now c.args.text.now

pub parts-preserved : goal.parts-preserved
parts-preserved c =
    crypted_more c.args.cipher.now c.args.iv.now c.args.text.now c.parts.text c.xor_front.new.to c.encrypt_block-stream.result _ c.parts.i
    (c.min-end.result - 16 * c.parts.i) c.min-end.result
    (omega arith) c.encrypt_block-stream.ensures.same c.counter.ensures (omega arith) refl (omega arith)
    c.parts.invariant.0 c.parts.invariant.1 c.xor_front.ensures

pub returns : goal.returns
returns c =
    crypted_all c.args.cipher.now c.args.iv.now c.args.text.now c.parts.text c.parts.i (omega arith) c.parts.invariant.1
