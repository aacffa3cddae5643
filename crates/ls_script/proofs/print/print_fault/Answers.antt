use Rattle.ls_script.proofs.ReplyLineLemmas.{fault_line}
use Rattle.ls_script.proofs.print.print_fault.Goals as goal

pub returns-clause-line : goal.returns-clause-line
returns-clause-line c = fault_line c.args.fault c.printed_fault.result c.printed_fault.ensures.text
