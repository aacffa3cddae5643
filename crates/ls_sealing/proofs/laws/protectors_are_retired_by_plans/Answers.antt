use Rattle.ls_sealing.proofs.ActionLemmas.{retiring_touches, retiring_planned, retiring_sound, retiring_applies}
use Rattle.ls_sealing.proofs.RetiringLemmas.{nothing_is_held, slot_is_blank}
use Rattle.ls_sealing.proofs.laws.protectors_are_retired_by_plans.Goals as goal

pub returns-clause-touches : goal.returns-clause-touches
returns-clause-touches c = retiring_touches

pub returns-clause-planned : goal.returns-clause-planned
returns-clause-planned c = retiring_planned

pub returns-clause-sound : goal.returns-clause-sound
returns-clause-sound c = λ slots p slot fits. retiring_sound p slots slot fits

pub returns-clause-applies : goal.returns-clause-applies
returns-clause-applies c = λ w p slot. retiring_applies p w slot

pub returns-clause-gone : goal.returns-clause-gone
returns-clause-gone c = λ w p slot. nothing_is_held p w slot

pub returns-clause-blank : goal.returns-clause-blank
returns-clause-blank c = λ w p n lt. slot_is_blank p w n lt
