use Rattle.ls_formats.specs.Files.{metrics_format}
use Rattle.ls_formats.proofs.FaultLemmas.{told}
use Rattle.ls_formats.proofs.FileLemmas.{metrics_live}
use Rattle.ls_formats.proofs.metrics.counts_fault.Goals as goal

pub returns-clause-first : goal.returns-clause-first
returns-clause-first c = told metrics_format metrics_live c.args.bytes.now c.row_fault.result c.row_fault.ensures.exact
