use Rattle.std.proofs.Common.{◌≡◌, ◌+◌, ◌-◌, ◌*◌, bit_xor, arith, ◌∙◌}
use Rattle.ls_bytes.proofs.JoinedLemmas.{joined_more, joined_all, joined_part}
use Rattle.ls_scrypt.proofs.xor.xor_into.Goals as goal

pub vectors-preserved : goal.vectors-preserved
vectors-preserved c =
    let i = 32 * c.vectors.i in
    let next : 32 * (c.vectors.i + 1) ≡ i + 32 = omega arith in
    let width : i + 32 - i ≡ 32 = omega arith in
    rw (next, width)
    (joined_part bit_xor c.args.to.now c.args.from.now c.vectors.to _ i 32 (omega arith) (omega arith)
    c.vectors.invariant (rw width at c.xor_vector.ensures))

pub rest-preserved : goal.rest-preserved
rest-preserved c =
    joined_more bit_xor c.args.to.now c.args.from.now c.rest.to c.rest.i (omega arith) (omega arith) c.rest.invariant

pub returns : goal.returns
returns c =
    record { xored = c.rest.invariant ∙ joined_all bit_xor c.args.to.now c.args.from.now c.rest.i (omega arith) (omega arith) }
