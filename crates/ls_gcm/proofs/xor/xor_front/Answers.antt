use Rattle.std.proofs.Common.{bit_xor, arith, ◌∙◌}
use Rattle.ls_bytes.proofs.JoinedLemmas.{joined_more, joined_all}
use Rattle.ls_gcm.proofs.xor.xor_front.Goals as goal

pub bytes-preserved : goal.bytes-preserved
bytes-preserved c = joined_more bit_xor c.args.to.now c.args.from.now c.bytes.to c.bytes.i (omega arith) (omega arith) c.bytes.invariant

pub returns : goal.returns
returns c = c.bytes.invariant ∙ joined_all bit_xor c.args.to.now c.args.from.now c.bytes.i (omega arith) (omega arith)
