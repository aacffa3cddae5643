use Rattle.std.proofs.Common.{refl, lit<}
use Rattle.ls_scrypt.specs.Salsa.{row_round, quarter_at}
use Rattle.ls_scrypt.proofs.rounds.row_round.Goals as goal

pub returns : goal.returns
unfolding row_round quarter_at
returns c =
    rw (← c.row_quarters.ensures 0 (lit< tt), ← c.row_quarters.ensures 1 (lit< tt), ← c.row_quarters.ensures 2 (lit< tt), ← c.row_quarters.ensures 3 (lit< tt)) refl
