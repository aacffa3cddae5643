use Rattle.std.proofs.Common.{bit_xor}
use Rattle.ls_scrypt.proofs.LaneLemmas.{stored_whole}
use Rattle.ls_scrypt.proofs.xor.xor_vector.Goals as goal

pub returns : goal.returns
returns c = stored_whole bit_xor 32 c.args.to.now c.args.from.now c.requires.to_len c.requires.from_len
