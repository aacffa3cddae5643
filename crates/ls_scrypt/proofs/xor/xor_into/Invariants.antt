use Rattle.std.proofs.Common.{◌≡◌, ◌*◌, bit_xor}
use Rattle.ls_bytes.specs.Joined.{joined_to}
use Rattle.ls_scrypt.proofs.xor.xor_into.Given as goal

abbrev pub invariant-vectors : goal.invariant-vectors
invariant-vectors l = l.to ≡ joined_to bit_xor l.fn.to l.from (32 * l.i)

abbrev pub invariant-rest : goal.invariant-rest
invariant-rest l = l.to ≡ joined_to bit_xor l.fn.to l.from l.i
