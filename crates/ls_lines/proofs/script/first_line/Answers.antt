use Rattle.ls_lines.proofs.PartingLemmas.{first_cut, first_uncut}
use Rattle.ls_lines.proofs.script.first_line.Goals as goal

pub returns-then-end-script-clause-lines : goal.returns-then-end-script-clause-lines
returns-then-end-script-clause-lines c = first_cut c.args.script.now c.first_end-end.result c.first_end-end.ensures.count c.if-end-script.true

pub returns-else-end-script-clause-lines : goal.returns-else-end-script-clause-lines
returns-else-end-script-clause-lines c = first_uncut c.args.script.now c.first_end-end.result c.first_end-end.ensures.count c.if-end-script.false c.requires.some
