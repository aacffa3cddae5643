use Rattle.std.proofs.Common.{Bool, IsTrue, sym, ap, subst, ◌∙◌}
use Rattle.ls_board.specs.declared.world.World.{World}
use Rattle.ls_drawing.proofs.PassingLemmas.{passes_lacking, passes_reading, passes_as, passes_err}
use Rattle.ls_protector.specs.Drafts.{drafted}
use Rattle.ls_sealing.specs.Building.{for_credential}
use Rattle.ls_enrolling.specs.Planning.{chosen_by}
use Rattle.ls_enrolling.proofs.ChoiceLemmas.{plan_is}
use Rattle.ls_enrolling.proofs.RowLemmas.{may}
use Rattle.ls_enrolling.proofs.planning.planned_with.Goals as goal

pub plan_besides-requires-clause-may : goal.plan_besides-requires-clause-may
plan_besides-requires-clause-may g c = may c.args.x.now.settings.settled.rec c.requires.rules (chosen_by c.args.user c.args.escrow c.args.drawn.now c.args.n.now) c.requires.choice.chosen

pub returns-in-Err-clause-passes : goal.returns-in-Err-clause-passes
returns-in-Err-clause-passes g c = passes_lacking (g.B.Board.sight c.args.board.now)

pub returns-in-Err-none-clause-passes : goal.returns-in-Err-none-clause-passes
returns-in-Err-none-clause-passes g c = passes_lacking (g.B.Board.sight c.args.board.now)

pub returns-in-Ok-draft_credential-clause-passes : goal.returns-in-Ok-draft_credential-clause-passes
returns-in-Ok-draft_credential-clause-passes g c = passes_as _ _ _ _ (passes_reading _ _ _ _ c.in-Ok-draft_credential.ensures.drafts)

pub returns-in-Err-draft_credential-clause-passes : goal.returns-in-Err-draft_credential-clause-passes
returns-in-Err-draft_credential-clause-passes g c = passes_err _ _ _ (passes_reading _ _ _ _ c.in-Err-draft_credential.ensures.drafts)

pub returns-in-Ok-draft_credential-clause-plan : goal.returns-in-Ok-draft_credential-clause-plan
returns-in-Ok-draft_credential-clause-plan g c =
    let old = g.B.Board.sight c.args.board.now in
    let new = g.B.Board.sight c.draft_credential.new.board in
    let n = c.args.n.now in
    let drafts = c.in-Ok-draft_credential.ensures.drafts in
    let bytes = c.protector_bytes-bytes.result.now in
    let told_old : IsTrue new.told → IsTrue old.told = λ told. subst (λ (b : Bool). IsTrue b) drafts.keeps.told told in
    plan_is old c.args.x.now c.requires.can c.args.user c.args.escrow c.args.drawn.now n new c.requires.choice
    c.in-Ok-none.none c.args.secret.now bytes c.in-Ok-none.ensures.none c.requires.secret c.protector_bytes-bytes.ensures.same
    c.in-Ok-draft_credential.draft c.in-Ok-draft_credential.ensures.made c.in-Ok-draft_credential.ensures.asked
    (λ told. drafts.finds (told_old told) ∙ ap (λ (w : World). drafted c.args.user n.id n.slot (for_credential c.in-Ok-none.none c.args.secret.now) bytes w.gk_key) (sym (drafts.same (told_old told))))
    c.in-Ok.besides c.in-Ok.ensures.others c.in-Ok.ensures.commit c.in-Ok.ensures.next
