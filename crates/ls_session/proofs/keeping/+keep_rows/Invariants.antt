use Rattle.std.specs.Prelude.{length}
use Rattle.ls_session.proofs.keeping.+keep_rows.Given as goal

abbrev pub decreases-keep_rows : goal.decreases-keep_rows
decreases-keep_rows g l = length l.rows.now
