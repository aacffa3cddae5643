use Rattle.ls_standing.specs.Quiet.{unnamed}
use Rattle.ls_standing.proofs.TouchLemmas.{all_touch_more}
use Rattle.ls_protector.specs.Parts.{reach_of_parts}
use Rattle.ls_protector.proofs.PartLemmas.{unnamed_clear}
use Rattle.ls_protector.proofs.StandLemmas.{clear_inside}
use Rattle.ls_protector.proofs.laws.unnamed_protectors_are_clear.Goals as goal

pub returns-clause-clear : goal.returns-clause-clear
returns-clause-clear c = λ w r p slot is un. unnamed_clear w r p slot is un

pub returns-clause-touches : goal.returns-clause-touches
returns-clause-touches c = λ w r p plan clear only. all_touch_more (reach_of_parts p) (unnamed w r) (clear_inside w r p clear) plan only
