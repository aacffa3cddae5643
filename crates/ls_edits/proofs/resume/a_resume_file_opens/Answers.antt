use Rattle.ls_edits.proofs.ResumeLemmas.{resume_is, resume_there}
use Rattle.ls_edits.proofs.resume.a_resume_file_opens.Goals as goal

pub returns-clause-sealed : goal.returns-clause-sealed
returns-clause-sealed c = resume_is

pub returns-clause-there : goal.returns-clause-there
returns-clause-there c = resume_there
