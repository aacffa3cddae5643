use Rattle.std.proofs.Common.{◌≡◌, ◌*◌, take, length}
use Rattle.ls_scrypt.specs.BlockMix.{x_before, evens, odds}
use Rattle.ls_scrypt.specs.Diagonals.{bytes_of}
use Rattle.ls_scrypt.proofs.block_mix.mix_pairs.Given as goal

abbrev pub invariant-pairs : goal.invariant-pairs
invariant-pairs l = record {
  even_len : length l.even ≡ 64 * l.r;
  odd_len : length l.odd ≡ 64 * l.r;
  chain : bytes_of l.x ≡ x_before l.r l.b (2 * l.i);
  even : take (64 * l.i) l.even ≡ evens l.r l.b l.i;
  odd : take (64 * l.i) l.odd ≡ odds l.r l.b l.i;
}
