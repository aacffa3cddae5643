use Rattle.std.proofs.Common.{◌≡◌, ◌≤◌, Option, IfSome, length, sym, ap, subst, arith}
use Rattle.ls_record.specs.declared.row.UserRow.{UserRow}
use Rattle.ls_script.specs.declared.reply.Reply.TheVariants as reply
use Rattle.ls_turn.specs.Refusing.{pending_for}
use Rattle.ls_turn.proofs.RowLemmas.{few_tokens}
use Rattle.ls_turn.proofs.WaitLemmas.{few_pending}
use Rattle.ls_questions.specs.Answers.{status_in}
use Rattle.ls_questions.proofs.QuestionLemmas.{status_unknown, status_known}
use Rattle.ls_questions.proofs.statuses.status.Goals as goal

pub returns-in-None-clause-serves : goal.returns-in-None-clause-serves
returns-in-None-clause-serves c = λ old can. status_unknown old c.args.x.now can c.args.user (sym c.in-None.ensures.same)

pub returns-in-Some-clause-serves : goal.returns-in-Some-clause-serves
returns-in-Some-clause-serves c = λ old can.
    let found = sym c.in-Some.ensures.same in
    let active = few_tokens c.args.x.now.settings.settled.rec c.in-Some.ensures.kept c.args.user c.in-Some.row.now found in
    let pending = few_pending c.args.x.now.settings.settled.rec.users c.args.x.now.pending.items can.waits c.args.user in
    status_known old c.args.x.now can c.args.user c.in-Some.row.now found c.status_row.result (c.status_row.ensures.same (omega (arith, active)) (omega (arith, pending)))

pub returns-in-Some-clause-tells : goal.returns-in-Some-clause-tells
returns-in-Some-clause-tells c =
    let active = few_tokens c.args.x.now.settings.settled.rec c.in-Some.ensures.kept c.args.user c.in-Some.row.now (sym c.in-Some.ensures.same) in
    subst (λ (found : Option UserRow). IfSome found (λ row. length (pending_for c.args.x.now c.args.user) ≤ 255 → reply.Status c.status_row.result ≡ reply.Status (status_in c.args.x.now c.args.user row)))
    c.in-Some.ensures.same
    (λ few. ap reply.Status (c.status_row.ensures.same (omega (arith, active)) few))
