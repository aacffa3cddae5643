use Rattle.std.proofs.Common.{◌∙◌, sym, ap, Option, ℕ}
use Rattle.ls_formats.specs.declared.part.FilePart.TheVariants.{Secdis}
use Rattle.ls_sealing.specs.Draws.{token_draw}
use Rattle.ls_sealing.specs.Building.{discardable_file}
use Rattle.ls_sealing.proofs.PlanLemmas.{put_by}
use Rattle.ls_sealing.proofs.token.push_discardable.Goals as goal

pub returns-in_ok-bytes-in-None : goal.returns-in_ok-bytes-in-None
unfolding discardable_file
returns-in_ok-bytes-in-None c = record {
  pushed = put_by c.push_part.result c.push_part.new.plan c.args.plan.now c.args.place.now.user c.args.place.now.id Secdis c.in_ok-bytes-in-None.bytes _
      (c.in_ok-bytes-in-None.ensures.same ∙ c.piece.ensures.same ∙ ap (λ (o : Option ℕ). discardable_file o (token_draw c.args.drawn.now)) (sym c.in-None.is))
      c.push_part.ensures.pushed;
}

pub returns-in_ok-bytes-in-Some : goal.returns-in_ok-bytes-in-Some
unfolding discardable_file
returns-in_ok-bytes-in-Some c = record {
  pushed = put_by c.push_part-in-Some.result c.push_part-in-Some.new.plan c.args.plan.now c.args.place.now.user c.args.place.now.id Secdis c.in_ok-bytes-in-Some.bytes _
      (c.in_ok-bytes-in-Some.ensures.sealed ∙ ap (λ (o : Option ℕ). discardable_file o (token_draw c.args.drawn.now)) (sym c.in-Some.is))
      c.push_part-in-Some.ensures.pushed;
}
