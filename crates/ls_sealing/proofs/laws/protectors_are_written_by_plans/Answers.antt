use Rattle.ls_sealing.proofs.ActionLemmas.{touches, planned, sound, applies}
use Rattle.ls_sealing.proofs.laws.protectors_are_written_by_plans.Goals as goal

pub returns-clause-touches : goal.returns-clause-touches
returns-clause-touches c = λ p slot m. touches p m slot

pub returns-clause-planned : goal.returns-clause-planned
returns-clause-planned c = λ p slot m. planned p m slot

pub returns-clause-sound : goal.returns-clause-sound
returns-clause-sound c = λ slots p slot m. sound p m slots slot

pub returns-clause-applies : goal.returns-clause-applies
returns-clause-applies c = λ w p slot m. applies p m w slot
