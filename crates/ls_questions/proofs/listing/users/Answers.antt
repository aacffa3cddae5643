use Rattle.std.proofs.Common.{List, ◌∙◌, ap, map, refl}
use Rattle.ls_record.specs.declared.row.UserRow.{UserRow}
use Rattle.ls_record.specs.Rows.{Rec}
use Rattle.ls_questions.proofs.QuestionLemmas.{users_lacking, users_told_all}
use Rattle.ls_questions.proofs.listing.users.Goals as goal

pub returns-in-Err-clause-serves : goal.returns-in-Err-clause-serves
returns-in-Err-clause-serves c = λ old can. users_lacking old c.args.x.now _ refl

pub returns-clause-serves : goal.returns-clause-serves
returns-clause-serves c = λ old can.
    users_told_all old c.args.x.now can c.record.ensures.kept c.in-Ok.list
    (c.in-Ok.ensures.same ∙ ap (λ (l : List UserRow). map (λ r. r.user) l) (c.as_slice.ensures.same ∙ ap (λ (r : Rec). r.users) (c.behind-x.view_is ∙ c.record.ensures.same)))
