use Rattle.ls_formats.proofs.ContentLemmas.{metrics_read}
use Rattle.ls_formats.proofs.metrics.MetricsFile.read.Goals as goal

pub invariant_of-result : goal.invariant_of-result
invariant_of-result c = (metrics_read c.args.bytes.now c.requires.format c.stored_kind.result c.stored_kind.ensures.same).small

pub invariant_of-result-2 : goal.invariant_of-result-2
invariant_of-result-2 c = (metrics_read c.args.bytes.now c.requires.format c.stored_kind.result c.stored_kind.ensures.same).kind
