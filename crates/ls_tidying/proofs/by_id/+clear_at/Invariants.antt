use Rattle.ls_tidying.specs.Tidying.{steps_left}
use Rattle.ls_tidying.proofs.by_id.+clear_at.Given as goal

abbrev pub decreases-clear_at : goal.decreases-clear_at
decreases-clear_at g l = steps_left l.x.now
