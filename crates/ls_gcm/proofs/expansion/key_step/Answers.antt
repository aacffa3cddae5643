use Rattle.std.proofs.Common.{arith}
use Rattle.ls_gcm.proofs.ByteTables.{rcon_at}
use Rattle.ls_gcm.proofs.ExpansionLemmas.{key_step_eighth}
use Rattle.ls_gcm.proofs.expansion.key_step.Goals as goal

pub returns-then-i-eq0 : goal.returns-then-i-eq0
returns-then-i-eq0 c =
    key_step_eighth c.args.t c.args.i _ _ _ _ _ (omega arith) c.if-i-eq0.true (rcon_at _ (omega arith))
    c.sub.ensures c.sub-then-i-eq0.ensures c.sub-then-i-eq0-2.ensures c.sub-then-i-eq0-3.ensures
