use Rattle.std.proofs.Common.{◌≡◌, ◌++◌, take, drop, map}
use Rattle.ls_vault.specs.Revealed.{shown_metrics}
use Rattle.ls_changing.specs.Keeping.{with_metrics}
use Rattle.ls_changing.proofs.keeping.keep_each.Given as goal

abbrev pub invariant-loop-entry : goal.invariant-loop-entry
invariant-loop-entry l = l.opened ≡ map (with_metrics l.user (shown_metrics l.new)) (take l.entry-index l.fn.opened) ++ drop l.entry-index l.fn.opened
