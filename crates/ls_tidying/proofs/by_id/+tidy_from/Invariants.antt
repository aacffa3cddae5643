use Rattle.std.proofs.Common.{length, ◌-◌}
use Rattle.ls_tidying.proofs.by_id.+tidy_from.Given as goal

abbrev pub decreases-tidy_from : goal.decreases-tidy_from
decreases-tidy_from g l = length l.x.now.retired.items - l.i
