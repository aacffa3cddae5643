use Rattle.std.proofs.Common.{◌∙◌, sym}
use Rattle.ls_questions.proofs.QuestionLemmas.{standing_agrees, standing_none, standing_some}
use Rattle.ls_questions.proofs.standings.standing.Goals as goal

pub returns-in-None-clause-agreed : goal.returns-in-None-clause-agreed
returns-in-None-clause-agreed c = λ w s agrees. standing_none c.args.x.now c.args.user (sym c.in-None.ensures.same) ∙ standing_agrees w c.args.x.now s agrees c.args.user

pub returns-in-Some-clause-agreed : goal.returns-in-Some-clause-agreed
returns-in-Some-clause-agreed c = λ w s agrees.
    standing_some c.args.x.now c.args.user c.in-Some.row.now (sym c.in-Some.ensures.same) c.is_open.result c.is_open.ensures.same ∙ standing_agrees w c.args.x.now s agrees c.args.user
