use Rattle.ls_promises.proofs.LineLemmas.{line_answered, fault_answered}
use Rattle.ls_promises.proofs.lines.lines_are_answered.Goals as goal

pub returns-clause-line : goal.returns-clause-line
returns-clause-line c = line_answered

pub returns-clause-fault : goal.returns-clause-fault
returns-clause-fault c = fault_answered
