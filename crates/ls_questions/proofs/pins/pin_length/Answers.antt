use Rattle.std.proofs.Common.{sym}
use Rattle.ls_questions.proofs.QuestionLemmas.{pin_unknown, pin_known}
use Rattle.ls_questions.proofs.pins.pin_length.Goals as goal

pub returns-in-None-clause-serves : goal.returns-in-None-clause-serves
returns-in-None-clause-serves c = λ old can. pin_unknown old c.args.x.now can c.args.user (sym c.in-None.ensures.same)

pub returns-in-Some-clause-serves : goal.returns-in-Some-clause-serves
returns-in-Some-clause-serves c = λ old can. pin_known old c.args.x.now can c.args.user c.in-Some.row.now (sym c.in-Some.ensures.same)
