use Rattle.ls_sealing.proofs.ActionLemmas.{erasing_touches, erasing_planned, erasing_sound, erasing_applies}
use Rattle.ls_sealing.proofs.RetiringLemmas.{erased_is_held, erased_slot_is_blank}
use Rattle.ls_sealing.proofs.laws.protectors_are_erased_by_plans.Goals as goal

pub returns-clause-touches : goal.returns-clause-touches
returns-clause-touches c = erasing_touches

pub returns-clause-planned : goal.returns-clause-planned
returns-clause-planned c = erasing_planned

pub returns-clause-sound : goal.returns-clause-sound
returns-clause-sound c = λ slots p slot fits. erasing_sound p slots slot fits

pub returns-clause-applies : goal.returns-clause-applies
returns-clause-applies c = λ w p slot. erasing_applies p w slot

pub returns-clause-left : goal.returns-clause-left
returns-clause-left c = λ w p slot. erased_is_held p w slot

pub returns-clause-blank : goal.returns-clause-blank
returns-clause-blank c = λ w p n lt. erased_slot_is_blank p w n lt
