use Rattle.ls_sealing.proofs.PlanLemmas.{draw_long}
use Rattle.ls_sealing.proofs.credential.push_files.Goals as goal

pub push_metrics-requires-clause-drawn : goal.push_metrics-requires-clause-drawn
push_metrics-requires-clause-drawn c = draw_long c.args.place.now.slot c.args.credential.now.kind _ c.requires.drawn
