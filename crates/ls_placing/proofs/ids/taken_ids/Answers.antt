use Rattle.std.proofs.Common.{List, ℕ, ap, subst, ◌∙◌}
use Rattle.ls_formats.specs.declared.parts.Parts.{Parts}
use Rattle.ls_placing.specs.Placing.{AreTakenIds, ids_of}
use Rattle.ls_placing.proofs.IdLemmas.{files_next}
use Rattle.ls_placing.proofs.ids.taken_ids.Goals as goal

pub loop-one-preserved : goal.loop-one-preserved
loop-one-preserved c =
    files_next c.args.retired.now c.loop-one.one-index (ids_of c.args.named.now) c.loop-one.taken c.add_said.new.ids c.one-item.result c.loop-one.invariant c.loop-one-test.true c.one-item.is
    (subst (λ (l : List (List ℕ)). AreTakenIds l c.loop-one.taken c.add_said.new.ids) (c.as_slice.ensures.same ∙ ap (λ (p : Parts). p.names) c.parts.ensures.same) c.in_ok-add_said.ensures.added)
