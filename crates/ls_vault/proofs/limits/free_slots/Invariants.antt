use Rattle.std.proofs.Common.{◌≡◌, ◌-◌, take}
use Rattle.ls_vault.specs.Limits.{used}
use Rattle.ls_vault.proofs.limits.free_slots.Given as goal

abbrev pub invariant-loop-u : goal.invariant-loop-u
invariant-loop-u l = l.free ≡ l.slots - used (take l.u-index l.users)
