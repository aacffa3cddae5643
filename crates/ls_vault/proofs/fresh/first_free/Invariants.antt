use Rattle.std.proofs.Common.{◌≡◌, ◌-◌}
use Rattle.ls_vault.specs.Fresh.{first_free}
use Rattle.ls_vault.proofs.fresh.first_free.Given as goal

abbrev pub invariant-loop : goal.invariant-loop
invariant-loop l = first_free (l.steps - l.counter) l.free l.taken ≡ first_free l.steps l.d l.taken
