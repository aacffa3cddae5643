use Rattle.std.proofs.Common.{◌≡◌, ◌*◌, take, length}
use Rattle.ls_hash.specs.Pbkdf2.{pbkdf2_blocks}
use Rattle.ls_hash.proofs.pbkdf2.pbkdf2_fill.Given as goal

abbrev pub invariant-whole_blocks : goal.invariant-whole_blocks
invariant-whole_blocks l = record {
  width : length l.out ≡ length l.initial.out;
  front : take (32 * l.i) l.out ≡ pbkdf2_blocks l.password l.salt l.i;
}
