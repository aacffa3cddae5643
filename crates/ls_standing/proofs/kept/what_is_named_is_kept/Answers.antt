use Rattle.ls_standing.proofs.FrameLemmas.{row_same, foreign_same, sound_same, holds_same, untouched_same, durably_same}
use Rattle.ls_standing.proofs.kept.what_is_named_is_kept.Goals as goal

pub returns-clause-rows : goal.returns-clause-rows
returns-clause-rows c = λ w mid r row same here. row_same r w mid same row here

pub returns-clause-checks : goal.returns-clause-checks
returns-clause-checks c = λ w mid r same. foreign_same r w mid same

pub returns-clause-sound : goal.returns-clause-sound
returns-clause-sound c = λ w mid r row name same here its sound. sound_same r w mid same row name here its sound

pub returns-clause-holds : goal.returns-clause-holds
returns-clause-holds c = λ w mid r v same holds. holds_same r w mid same v holds

pub returns-clause-untouched : goal.returns-clause-untouched
returns-clause-untouched c = λ w mid r same. untouched_same r w mid same

pub returns-clause-stands : goal.returns-clause-stands
returns-clause-stands c = durably_same
