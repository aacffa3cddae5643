use Rattle.std.proofs.Common.{◌<◌, ℕ}
use Rattle.ls_naming.specs.Named.{NamesKey}
use Rattle.ls_checker.specs.BareRows.{HasKeyAt}
use Rattle.ls_checker.proofs.bare_devices.keeps_named_keys.Given as goal

abbrev pub invariant-loop-at : goal.invariant-loop-at
invariant-loop-at l = (k : ℕ) → k < l.at → HasKeyAt (λ (alias : ℕ). ¬ (¬ NamesKey l.holder alias)) l.world.keys k
