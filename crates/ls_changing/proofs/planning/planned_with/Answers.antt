use Rattle.std.proofs.Common.{◌+◌, not, ℕ, Bool, IsTrue, sym, ap, subst, ◌∙◌, arith}
use Rattle.std.specs.Prelude.{◌&&◌}
use Rattle.ls_board.specs.Gatekeeper.{signed}
use Rattle.ls_credential.specs.Rules.{KindAndText}
use Rattle.ls_secret.specs.declared.personal.Personal.TheVariants.{SpGkAuthentication}
use Rattle.ls_secret.specs.Derivation.{subkey_of}
use Rattle.ls_secret.specs.Subkeys.{subkey_bytes}
use Rattle.ls_vault.specs.Kinds.{is_empty}
use Rattle.ls_changing.specs.Drawing.{own_len}
use Rattle.ls_board.specs.declared.world.World.{World}
use Rattle.ls_protector.specs.Drafts.{drafted, MayBeAsked}
use Rattle.ls_sealing.specs.Building.{for_credential}
use Rattle.ls_changing.specs.Planning.{chosen_by}
use Rattle.ls_changing.proofs.ChoiceLemmas.{bytes_long, bytes_each}
use Rattle.ls_drawing.proofs.PassingLemmas.{passes_then, passes_lacking, passes_reading, passes_as, passes_err}
use Rattle.ls_changing.proofs.PlanLemmas.{plan_is}
use Rattle.ls_changing.proofs.RowLemmas.{may}
use Rattle.ls_changing.proofs.planning.planned_with.Goals as goal

pub plan_besides-requires : goal.plan_besides-requires
plan_besides-requires g c = record {
  may = may c.args.x.now.settings.settled.rec c.requires.rules (chosen_by c.args.row.now c.args.new.now c.args.n.now) c.requires.choice.chosen;
}

pub returns-in-Err-plan_besides-clause-passes : goal.returns-in-Err-plan_besides-clause-passes
returns-in-Err-plan_besides-clause-passes g c = passes_then _ _ c.in-Ok.ensures.passes.goes c.in-Ok.ensures.passes.stored _ _ (passes_lacking (g.B.Board.sight c.own_handle.new.board))

pub draft_credential-requires-clause-drawn : goal.draft_credential-requires-clause-drawn
draft_credential-requires-clause-drawn g c =
    bytes_long c.args.x.now.slots c.args.n.now.slot c.requires.choice.fits c.args.row.now c.args.new.now c.args.drawn.now c.protector_bytes-bytes.result.now c.is_first-first.result
    (c.is_first-first.ensures.same ∙ ap (λ (v : KindAndText). is_empty c.args.row.now.kind && not (is_empty v.kind)) c.new.view_is) c.requires.drawn c.protector_bytes-bytes.ensures.same

pub returns-in-Ok-draft_credential-clause-passes : goal.returns-in-Ok-draft_credential-clause-passes
returns-in-Ok-draft_credential-clause-passes g c = passes_then _ _ c.in-Ok.ensures.passes.goes c.in-Ok.ensures.passes.stored _ _ (passes_as _ _ _ _ (passes_reading _ _ _ _ c.in-Ok-draft_credential.ensures.drafts))

pub returns-in-Err-draft_credential-clause-passes : goal.returns-in-Err-draft_credential-clause-passes
returns-in-Err-draft_credential-clause-passes g c = passes_then _ _ c.in-Ok.ensures.passes.goes c.in-Ok.ensures.passes.stored _ _ (passes_err _ _ _ (passes_reading _ _ _ _ c.in-Err-draft_credential.ensures.drafts))

pub returns-in-Ok-draft_credential-clause-plan : goal.returns-in-Ok-draft_credential-clause-plan
returns-in-Ok-draft_credential-clause-plan g c =
    let old = g.B.Board.sight c.args.board.now in
    let mid = g.B.Board.sight c.own_handle.new.board in
    let new = g.B.Board.sight c.draft_credential.new.board in
    let goes = c.in-Ok.ensures.passes.goes in
    let drafts = c.in-Ok-draft_credential.ensures.drafts in
    let n = c.args.n.now in
    let row = c.args.row.now in
    let told_mid : IsTrue new.told → IsTrue mid.told = λ told. subst (λ (b : Bool). IsTrue b) drafts.keeps.told told in
    let told_old : IsTrue new.told → IsTrue old.told = λ told. subst (λ (b : Bool). IsTrue b) goes.told (told_mid told) in
    let from : ℕ = own_len c.is_first-first.result + 8 in
    plan_is new c.args.x.now row c.args.new.now c.args.secret.now c.args.drawn.now n c.requires.choice
    c.protector_bytes-bytes.result.now c.in-Ok.handle c.handle_salt-salt.result c.handle_salt-salt.ensures.small
    (bytes_long c.args.x.now.slots n.slot c.requires.choice.fits row c.args.new.now c.args.drawn.now c.protector_bytes-bytes.result.now c.is_first-first.result
    (c.is_first-first.ensures.same ∙ ap (λ (v : KindAndText). is_empty row.kind && not (is_empty v.kind)) c.new.view_is) c.requires.drawn c.protector_bytes-bytes.ensures.same)
    (bytes_each from c.args.drawn.now c.protector_bytes-bytes.result.now c.protector_bytes-bytes.ensures.same (λ i. let f = c.type_inv.drawn i in omega (arith, f)))
    c.in-Ok-draft_credential.draft c.in-Ok-draft_credential.ensures.made
    (subst (λ (m : ℕ). MayBeAsked m c.in-Ok-draft_credential.draft.plan) (goes.slots ∙ sym c.requires.can.slots) c.in-Ok-draft_credential.ensures.asked)
    (λ told. drafts.finds (told_mid told) ∙ ap (λ (w : World). drafted row.user n.id n.slot (for_credential c.args.new.now c.args.secret.now) c.protector_bytes-bytes.result.now w.gk_key) (sym (drafts.same (told_mid told))))
    (λ told come. c.in-Ok.ensures.signs (told_old told) (c.comes.ensures.same ∙ come)
    ∙ ap (λ (w : World). signed w.gk_key n.secure c.handle_salt-salt.result (subkey_bytes (subkey_of c.args.secret.now SpGkAuthentication))) (sym (drafts.same (told_mid told) ∙ c.in-Ok.ensures.same (told_old told))))
    c.in-Ok-plan_besides.besides c.in-Ok-plan_besides.ensures.others c.in-Ok-plan_besides.ensures.after c.in-Ok-plan_besides.ensures.commit c.in-Ok-plan_besides.ensures.next
