use Rattle.std.proofs.Common.{◌≡◌, ◌+◌, ◌-◌, ◌*◌, length, take, drop, arith, ap, ◌∙◌}
use Rattle.std.proofs.lemmas.List.{length-take-le}
use Rattle.ls_scrypt.specs.BlockMix.{block_mix, part}
use Rattle.ls_scrypt.proofs.MixingLemmas.{part_behind, part_last}
use Rattle.ls_scrypt.proofs.ro_mix.mix_row.Goals as goal

pub returns-clause-mixed : goal.returns-clause-mixed
returns-clause-mixed c =
    let k = 128 * c.args.r in
    let i = c.args.i in
    let done = c.split_at_mut-done.result.0.now in
    let rest = c.split_at_mut-done.result.1.now in
    let source : take (length done - k * i) (drop (k * i) done) ≡ part k c.args.v.now i =
    part_last k i _ c.args.v.now done c.split_at_mut-done.ensures.front (omega arith) in
    let room : length (take k rest) ≡ k = length-take-le k rest (omega arith) in
    part_behind k (i + 1) done c.block_mix.new.out _ (omega arith) (omega arith)
    ∙ c.block_mix.ensures ∙ ap (block_mix c.args.r) source
