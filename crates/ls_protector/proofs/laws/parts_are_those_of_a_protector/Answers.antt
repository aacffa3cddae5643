use Rattle.std.proofs.Common.{refl}
use Rattle.ls_protector.proofs.PartLemmas.{written_touch, erasing_touch, erasing_few}
use Rattle.ls_protector.proofs.laws.parts_are_those_of_a_protector.Goals as goal

pub returns-clause-writing : goal.returns-clause-writing
returns-clause-writing c = λ p slot m. written_touch p slot m

pub returns-clause-erasing : goal.returns-clause-erasing
returns-clause-erasing c = λ p slot. refl

pub returns-clause-erased : goal.returns-clause-erased
returns-clause-erased c = λ p. erasing_touch p

pub returns-clause-few : goal.returns-clause-few
returns-clause-few c = λ p. erasing_few p
