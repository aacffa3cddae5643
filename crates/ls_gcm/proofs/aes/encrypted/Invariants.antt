use Rattle.std.proofs.Common.{◌≡◌}
use Rattle.ls_gcm.specs.Aes.{column_bytes, rounds}
use Rattle.ls_gcm.proofs.aes.encrypted.Given as goal

abbrev pub invariant-rounds : goal.invariant-rounds
invariant-rounds l = column_bytes l.s ≡ rounds l.w l.b l.n
