use Rattle.std.proofs.Common.{◌≡◌, ◌++◌, take, drop, map, bit_xor}
use Rattle.ls_hash.proofs.mac.xor_each.Given as goal

abbrev pub invariant-loop-x : goal.invariant-loop-x
invariant-loop-x l =
    l.x-items ≡ map (λ b. bit_xor b l.pad) (take l.x-index l.fn.block) ++ drop l.x-index l.fn.block
