use Rattle.std.proofs.Common.{◌≡◌, ◌+◌, ◌*◌, ◌<◌, ℕ, length}
use Rattle.ls_scrypt.specs.BlockMix.{part}
use Rattle.ls_scrypt.specs.RoMix.{v_at}
use Rattle.ls_scrypt.proofs.ro_mix.fill_table.Given as goal

abbrev pub invariant-rows : goal.invariant-rows
invariant-rows l = record {
  v_len : length l.v ≡ 128 * l.r * l.n;
  table : (j : ℕ) → j < l.i + 1 → part (128 * l.r) l.v j ≡ v_at l.r l.fn.x j;
}
