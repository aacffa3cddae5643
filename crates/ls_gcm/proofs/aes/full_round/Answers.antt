use Rattle.std.proofs.Common.{slice_index, arith}
use Rattle.ls_gcm.proofs.RoundLemmas.{full_round_is}
use Rattle.ls_gcm.proofs.aes.full_round.Goals as goal

pub returns : goal.returns
returns c =
    full_round_is (slice_index c.args.s.now 0) (slice_index c.args.s.now 1) (slice_index c.args.s.now 2) (slice_index c.args.s.now 3)
    c.column.result c.column-2.result c.column-3.result c.column-4.result
    c.word_number.result c.word_number-2.result c.word_number-3.result c.word_number-4.result c.args.key.now (omega arith)
    c.word_number.ensures c.word_number-2.ensures c.word_number-3.ensures c.word_number-4.ensures
    c.column.ensures c.column-2.ensures c.column-3.ensures c.column-4.ensures
