use Rattle.std.proofs.Common.{◌≡◌, ◌++◌, length, drop}
use Rattle.ls_memboard.specs.Cuts.{is_hit, noisy}
use Rattle.ls_memboard.proofs.pick.noisy.Given as goal

abbrev pub invariant-loop-byte : goal.invariant-loop-byte
invariant-loop-byte l =
    (length l.out.items ≡ l.byte-index)
    × (noisy (is_hit l.how) 0 l.bytes l.initial.rng
    ≡ (l.out.items ++ (noisy (is_hit l.how) l.byte-index (drop l.byte-index l.bytes) l.rng).0, (noisy (is_hit l.how) l.byte-index (drop l.byte-index l.bytes) l.rng).1))
