use Rattle.std.proofs.Common.{arith}
use Rattle.ls_gcm.proofs.RoundLemmas.{columns_are}
use Rattle.ls_gcm.proofs.aes.columns.Goals as goal

pub returns : goal.returns
returns c =
    columns_are c.args.block.now c.word_number.result c.word_number-2.result c.word_number-3.result c.word_number-4.result (omega arith)
    c.word_number.ensures c.word_number-2.ensures c.word_number-3.ensures c.word_number-4.ensures
