use Rattle.ls_promises.proofs.AnswerLineLemmas.{answer_one_line}
use Rattle.ls_promises.proofs.lines.answers_are_lines.Goals as goal

pub returns : goal.returns
returns c = record { single = answer_one_line }
