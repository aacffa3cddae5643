use Rattle.ls_resume.proofs.ArmedLemmas.{all_sound, all_apply}
use Rattle.ls_resume.proofs.laws.what_arms_may_be_asked.Goals as goal

pub returns-clause-sound : goal.returns-clause-sound
returns-clause-sound c = all_sound

pub returns-clause-applies : goal.returns-clause-applies
returns-clause-applies c = all_apply
