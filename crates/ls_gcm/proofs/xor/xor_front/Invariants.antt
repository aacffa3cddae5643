use Rattle.std.proofs.Common.{◌≡◌, bit_xor}
use Rattle.ls_bytes.specs.Joined.{joined_to}
use Rattle.ls_gcm.proofs.xor.xor_front.Given as goal

abbrev pub invariant-bytes : goal.invariant-bytes
invariant-bytes l = l.to ≡ joined_to bit_xor l.initial.to l.from l.i
