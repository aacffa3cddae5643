use Rattle.std.proofs.Common.{◌≡◌, ◌∙◌, ap, sym, length, arith}
use Rattle.ls_gcm.specs.Gcm.{block_count, ghash, hashed_text}
use Rattle.ls_gcm.proofs.HashLemmas.{text_block, last_block, ghash_more}
use Rattle.ls_gcm.proofs.hash.hash.Goals as goal

pub parts-preserved : goal.parts-preserved
parts-preserved c =
    ghash_more c.args.table.now c.parts.y c.from_be_bytes.result c.times-y.result c.parts.i (hashed_text c.args.text.now)
    c.padded.result c.parts.invariant
    (c.padded.ensures ∙ rw c.block.ensures.value (sym (text_block c.args.text.now c.parts.i (omega arith))))
    c.from_be_bytes.ensures c.times-y.ensures.same

pub returns : goal.returns
returns c =
    let done : c.parts.i ≡ block_count (length c.args.text.now) = omega arith in
    ghash_more c.args.table.now c.parts.y c.from_be_bytes-2.result c.times.result (block_count (length c.args.text.now))
    (hashed_text c.args.text.now) c.bit_lengths.result (c.parts.invariant ∙ ap (ghash _ _) done)
    (c.bit_lengths.ensures ∙ sym (last_block c.args.text.now)) c.from_be_bytes-2.ensures c.times.ensures.same
