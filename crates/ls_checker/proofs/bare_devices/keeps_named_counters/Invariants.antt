use Rattle.std.proofs.Common.{◌<◌, ℕ}
use Rattle.ls_naming.specs.Named.{NamesEnrolled}
use Rattle.ls_sealing.specs.Protectors.{has_weaver}
use Rattle.ls_checker.specs.BareRows.{HasKeyAt}
use Rattle.ls_checker.proofs.bare_devices.keeps_named_counters.Given as goal

abbrev pub invariant-loop-at : goal.invariant-loop-at
invariant-loop-at l = (k : ℕ) → k < l.at → HasKeyAt (λ (sid : ℕ). ¬ (¬ NamesEnrolled (has_weaver l.world) l.holder sid)) l.world.gk k
