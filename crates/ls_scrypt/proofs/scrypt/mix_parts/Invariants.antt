use Rattle.std.proofs.Common.{◌≡◌, ◌*◌, take, drop, length}
use Rattle.ls_scrypt.specs.Scrypt.{mixed_parts}
use Rattle.ls_scrypt.proofs.scrypt.mix_parts.Given as goal

abbrev pub invariant-parts : goal.invariant-parts
invariant-parts l = record {
  b_len : length l.b ≡ 128 * l.r * l.p;
  y_len : length l.y ≡ 128 * l.r;
  v_len : length l.v ≡ 128 * l.r * l.n;
  front : take (128 * l.r * l.i) l.b ≡ mixed_parts l.r l.n l.initial.b l.i;
  rest : drop (128 * l.r * l.i) l.b ≡ drop (128 * l.r * l.i) l.initial.b;
}
