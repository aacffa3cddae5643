use Rattle.std.proofs.Common.{◌<◌, List, sym, ◌∙◌, ap, subst}
use Rattle.std.specs.Prelude.{IfSome, Option}
use Rattle.std.specs.List.{AllByRecursion}
use Rattle.ls_arming.specs.declared.arming.Arming.{Arming}
use Rattle.ls_record.specs.declared.row.UserRow.{UserRow}
use Rattle.ls_record.specs.Rows.{Rec, IsArming}
use Rattle.ls_resume.specs.Resuming.{protector_of}
use Rattle.ls_resume.proofs.AscendingLemmas.{protectors_there}
use Rattle.ls_resume.proofs.ResumeLemmas.{some_armed}
use Rattle.ls_resume.proofs.resuming.resume.Goals as goal

pub resume_armed-requires-clause-ids : goal.resume_armed-requires-clause-ids
resume_armed-requires-clause-ids g c =
    let arming : IsArming c.rec.inside.users c.in-Some.armed = subst (λ (o : Option Arming). IfSome o (IsArming c.rec.inside.users)) c.in-Some.is c.rec.invariant.armed in
    subst (λ (l : List UserRow). AllByRecursion (λ user. 0 < protector_of l user) c.in-Some.armed.users) (sym c.as_slice.ensures.same)
    (protectors_there c.rec.inside.users c.in-Some.armed.users c.rec.invariant.rows arming.there)

pub returns-in-Some-clause-learns : goal.returns-in-Some-clause-learns
returns-in-Some-clause-learns g c = some_armed c.args.rec.now c.as_slice.result.now c.args.boot c.in-Some.armed (g.B.Board.sight c.args.board.now) (g.B.Board.sight c.resume_armed.new.board) c.resume_armed.result
    (sym (ap (λ (r : Rec). r.armed) c.rec.view_is) ∙ c.in-Some.is) (c.as_slice.ensures.same ∙ ap (λ (r : Rec). r.users) c.rec.view_is) c.resume_armed.ensures.learns
