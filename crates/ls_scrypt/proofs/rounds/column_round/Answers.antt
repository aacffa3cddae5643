use Rattle.std.proofs.Common.{refl, lit<}
use Rattle.ls_scrypt.specs.Salsa.{column_round, quarter_at}
use Rattle.ls_scrypt.proofs.rounds.column_round.Goals as goal

pub returns : goal.returns
unfolding column_round quarter_at
returns c =
    rw (← c.quarter.ensures 0 (lit< tt), ← c.quarter.ensures 1 (lit< tt), ← c.quarter.ensures 2 (lit< tt), ← c.quarter.ensures 3 (lit< tt)) refl
