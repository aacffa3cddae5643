use Rattle.ls_resume.proofs.ArmedLemmas.{all_open}
use Rattle.ls_resume.proofs.laws.armed_secrets_open.Goals as goal

pub returns : goal.returns
returns c = all_open
