use Rattle.std.proofs.Common.{arith, sym}
use Rattle.ls_top.proofs.LineLemmas.{command_complete, no_command}
use Rattle.ls_top.proofs.line.command_of_line.Goals as goal

pub returns-in-Some-clause-same : goal.returns-in-Some-clause-same
returns-in-Some-clause-same c = sym (command_complete c.args.line.now c.in-Some.user (record { number = omega arith; spelled = c.in-Some.ensures.read }))

pub returns-in-None-clause-same : goal.returns-in-None-clause-same
returns-in-None-clause-same c = no_command c.args.line.now (λ user is. absurd (cc (c.in-None.ensures.only user is)))
