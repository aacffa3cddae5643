use Rattle.ls_tidying.proofs.IdLemmas.{none_says}
use Rattle.ls_tidying.proofs.by_id.tidy_id.Goals as goal

pub returns-in-Ok-clause-gone : goal.returns-in-Ok-clause-gone
returns-in-Ok-clause-gone g c = none_says c.args.id c.args.x.now.retired.items c.tidy_from.new.x.retired.items c.in-Ok.ensures.left
