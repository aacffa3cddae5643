use Rattle.std.proofs.Common.{◌∙◌, arith}
use Rattle.ls_gcm.proofs.HashLemmas.{bit_lengths_is}
use Rattle.ls_gcm.proofs.hash.bit_lengths.Goals as goal

pub returns : goal.returns
returns c =
    bit_lengths_is c.copy_from_slice.new.self c.args.n _ (c.copy_from_slice.ensures.after ∙ c.to_be_bytes.ensures) (omega arith)
