use Rattle.std.proofs.Common.{[], arith}
use Rattle.ls_memboard.proofs.ReplayLemmas.{length-past_from}
use Rattle.ls_memboard.proofs.memory.MemBoard.moment.Goals as goal

pub returns : goal.returns
returns c =
    let s = c.args.self.now in
    record { calls = omega (arith, length-past_from s.pool.items s.start s.log.items [], c.len.ensures, s.log.ok) }
