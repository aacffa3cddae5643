use Rattle.std.proofs.Common.{sym}
use Rattle.ls_questions.proofs.QuestionLemmas.{token_unknown, token_known}
use Rattle.ls_questions.proofs.tokens.token_state.Goals as goal

pub returns-in-None-clause-serves : goal.returns-in-None-clause-serves
returns-in-None-clause-serves c = λ old can. token_unknown old c.args.x.now can c.args.user c.args.id (sym c.in-None.ensures.same)

pub returns-in-Some-clause-serves : goal.returns-in-Some-clause-serves
returns-in-Some-clause-serves c = λ old can. token_known old c.args.x.now can c.args.user c.args.id c.in-Some.row.now (sym c.in-Some.ensures.same) c.state_in_row.result c.state_in_row.ensures.same
