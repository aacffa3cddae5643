use Rattle.ls_standing.proofs.SeveralLemmas.{all_touch, all_held, all_still, all_unnamed}
use Rattle.ls_standing.proofs.several.protectors_are_written_one_after_the_other.Goals as goal

pub returns-clause-touches : goal.returns-clause-touches
returns-clause-touches c = all_touch

pub returns-clause-spared : goal.returns-clause-spared
returns-clause-spared c = all_held

pub returns-clause-untouched : goal.returns-clause-untouched
returns-clause-untouched c = all_still

pub returns-clause-unnamed : goal.returns-clause-unnamed
returns-clause-unnamed c = all_unnamed
