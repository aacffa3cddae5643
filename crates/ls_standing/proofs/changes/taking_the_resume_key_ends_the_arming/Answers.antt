use Rattle.ls_standing.proofs.ResumeLemmas.{taken, taken_within, taken_cut}
use Rattle.ls_standing.proofs.changes.taking_the_resume_key_ends_the_arming.Goals as goal

pub returns-clause-done : goal.returns-clause-done
returns-clause-done c = λ w s v. taken s v w

pub returns-clause-within : goal.returns-clause-within
returns-clause-within c = λ w mid s v. taken_within s v w mid

pub returns-clause-cut : goal.returns-clause-cut
returns-clause-cut c = λ w image s v. taken_cut s v w image
