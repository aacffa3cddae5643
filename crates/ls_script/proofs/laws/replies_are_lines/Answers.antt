use Rattle.ls_script.proofs.ReplyLineLemmas.{reply_one_line, fault_one_line}
use Rattle.ls_script.proofs.laws.replies_are_lines.Goals as goal

pub returns-clause-reply : goal.returns-clause-reply
returns-clause-reply c = reply_one_line

pub returns-clause-fault : goal.returns-clause-fault
returns-clause-fault c = fault_one_line
