use Rattle.ls_promises.proofs.CapturedLemmas.{arm_users, unarmed_others, unarmed_captured}
use Rattle.ls_promises.proofs.captured.armed_users_were_captured.Goals as goal

pub returns-clause-boot : goal.returns-clause-boot
returns-clause-boot c = λ slots s moment drawn fine. arm_users slots s moment drawn fine

pub returns-clause-others : goal.returns-clause-others
returns-clause-others c = λ slots s k moment drawn user other not. unarmed_others slots s moment drawn user k other not

pub returns-clause-captured : goal.returns-clause-captured
returns-clause-captured c = λ slots s k moment drawn user other free. unarmed_captured slots s moment drawn user k other free
