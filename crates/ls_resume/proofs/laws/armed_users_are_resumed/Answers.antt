use Rattle.ls_resume.proofs.StandingLemmas.{nothing_armed, arming_expired, users_opened}
use Rattle.ls_resume.proofs.laws.armed_users_are_resumed.Goals as goal

pub returns-clause-unarmed : goal.returns-clause-unarmed
returns-clause-unarmed c = λ w r v boot is holds none. nothing_armed w r boot v is holds none

pub returns-clause-expired : goal.returns-clause-expired
returns-clause-expired c = λ w r v boot a is holds some apart. arming_expired w r boot v is holds a some apart

pub returns-clause-resumed : goal.returns-clause-resumed
returns-clause-resumed c = λ w r v boot a is holds some good. users_opened w r boot v is holds a some good
