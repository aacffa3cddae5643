use Rattle.ls_sealing.proofs.PlanLemmas.{sealed_by}
use Rattle.ls_sealing.proofs.token.sealed_file.Goals as goal

pub returns : goal.returns
returns c = record {
  sealed = sealed_by c.seal_under.result c.piece_at-value.result _ c.piece_at-iv.result _ c.piece-bytes.result.now _
      c.piece_at-value.ensures.same c.piece_at-iv.ensures.same c.piece-bytes.ensures.same c.seal_under.ensures.sealed;
}
