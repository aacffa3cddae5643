use Rattle.ls_protector.proofs.StayLemmas.{plan_beside, but_beside}
use Rattle.ls_protector.proofs.laws.protectors_stand_beside_each_other.Goals as goal

pub returns-clause-plan : goal.returns-clause-plan
returns-clause-plan c = λ p q plan apart only. plan_beside p q apart plan only

pub returns-clause-but : goal.returns-clause-but
returns-clause-but c = λ w mid p q apart same. but_beside p q apart w mid same
