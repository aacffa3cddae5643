use Rattle.std.proofs.Common.{[]}
use Rattle.ls_sealing.specs.Building.{for_token}
use Rattle.ls_sealing.specs.Draws.{token_draw}
use Rattle.ls_sealing.specs.Protectors.{token}
use Rattle.ls_sealing.proofs.PlanLemmas.{err_only}
use Rattle.ls_protector.specs.Parts.{protector_at}
use Rattle.ls_token.proofs.TokenDraftLemmas.{written_touches, draft_is}
use Rattle.ls_token.proofs.drafting.draft_at.Goals as goal

pub of-requires : goal.of-requires
of-requires c =
    let place = c.args.place.now in
    record { touches = written_touches (protector_at place token) place.slot _ _ _ (token_draw c.args.drawn.now) _ _ c.in_ok-parts.ensures.same c.in_ok-plan.ensures.built }

pub returns-in_err-parts : goal.returns-in_err-parts
returns-in_err-parts c = record { same = err_only c.from_residual-in_err-parts.result _ _ c.from_residual-in_err-parts.ensures.1 }

pub returns : goal.returns
returns c =
    let place = c.args.place.now in
    record { same = draft_is place.user place.id place.slot (for_token c.args.token.now c.args.version c.args.p0.now) c.args.drawn.now [] _ _ _ c.of.ensures.same c.in_ok-parts.ensures.same c.in_ok-plan.ensures.built }
