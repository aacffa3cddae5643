use Rattle.ls_edits.proofs.ArmLemmas.{resume_read}
use Rattle.ls_edits.proofs.arming.armed_users_have_a_resume_file.Goals as goal

pub returns : goal.returns
returns c = λ w r v row u once is holds has found on cell. resume_read w r v is holds row u once has found on cell
