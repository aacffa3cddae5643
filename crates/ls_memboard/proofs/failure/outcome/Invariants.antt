use Rattle.std.proofs.Common.{◌≡◌, drop}
use Rattle.ls_memboard.specs.Failures.{outcome_at}
use Rattle.ls_memboard.proofs.failure.outcome.Given as goal

abbrev pub invariant-loop-failure : goal.invariant-loop-failure
invariant-loop-failure l = outcome_at (drop l.failure-index l.failures) l.call ≡ outcome_at l.failures l.call
