use Rattle.std.proofs.Common.{◌≡◌, ◌*◌, ◌<◌, ℕ, List, length}
use Rattle.ls_scrypt.specs.BlockMix.{part}
use Rattle.ls_scrypt.specs.RoMix.{v_at, mixed}
use Rattle.ls_scrypt.proofs.ro_mix.mix_by_table.Given as goal

abbrev pub invariant-turns : goal.invariant-turns
invariant-turns l = (length l.x ≡ 128 * l.r)
    × (length l.y ≡ 128 * l.r)
    × ((first : List ℕ) → l.fn.x ≡ v_at l.r first l.n → ((j : ℕ) → j < l.n → part (128 * l.r) l.v j ≡ v_at l.r first j)
    → l.x ≡ mixed l.r l.n first (2 * l._pair))
