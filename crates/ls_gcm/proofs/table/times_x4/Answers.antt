use Rattle.std.proofs.Common.{◌%◌, sym, arith}
use Rattle.ls_gcm.proofs.ByteTables.{reduced_at}
use Rattle.ls_gcm.proofs.ProductLemmas.{times_x4-parted}
use Rattle.ls_gcm.proofs.table.times_x4.Goals as goal

pub returns : goal.returns
returns c = rw (reduced_at (c.args.v % 16) (omega arith)) (sym (times_x4-parted c.args.v))
