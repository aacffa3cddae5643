use Rattle.std.proofs.Common.{◌≡◌, ◌-◌, bit_xor}
use Rattle.ls_gcm.specs.Blocks.{product_of}
use Rattle.ls_gcm.proofs.table.multiple.Given as goal

abbrev pub invariant-bits : goal.invariant-bits
invariant-bits l = bit_xor l.z (product_of (4 - l.i) l.n l.v) ≡ product_of 4 l.n l.h
