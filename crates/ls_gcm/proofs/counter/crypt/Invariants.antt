use Rattle.std.proofs.Common.{◌≡◌, ◌++◌, ◌*◌, drop, length, bit_xor}
use Rattle.std.specs.Simd.Lanes.{zip2}
use Rattle.ls_gcm.specs.Gcm.{stream}
use Rattle.ls_gcm.proofs.counter.crypt.Given as goal

abbrev pub invariant-parts : goal.invariant-parts
invariant-parts l =
    (length (stream l.cipher l.iv l.i) ≡ 16 * l.i)
    × (l.text ≡ zip2 bit_xor l.fn.text (stream l.cipher l.iv l.i) ++ drop (16 * l.i) l.fn.text)
