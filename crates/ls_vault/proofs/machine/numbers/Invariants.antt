use Rattle.std.proofs.Common.{◌≡◌, map, take}
use Rattle.ls_vault.proofs.machine.numbers.Given as goal

abbrev pub invariant-loop-u : goal.invariant-loop-u
invariant-loop-u l = l.list ≡ map (λ u. u.number) (take l.u-index l.users)
