use Rattle.std.proofs.Common.{arith}
use Rattle.ls_gcm.proofs.ByteTables.{sbox_at}
use Rattle.ls_gcm.proofs.byte.sub.Goals as goal

pub returns : goal.returns
returns c = sbox_at c.args.b (omega arith)
