use Rattle.std.proofs.Common.{◌≡◌, ◌-◌}
use Rattle.ls_vault.specs.Fresh.{first_free}
use Rattle.ls_sweep.specs.FreshIds.{beside}
use Rattle.ls_sweep.proofs.fresh.first_free.Given as goal

abbrev pub invariant-loop : goal.invariant-loop
invariant-loop l = first_free (l.steps - l.counter) l.free (beside l.zero l.taken) ≡ first_free l.steps l.d (beside l.zero l.taken)
