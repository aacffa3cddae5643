use Rattle.ls_formats.specs.Files.{metrics_format}
use Rattle.ls_formats.specs.Contents.{AreMetrics, metrics_bytes, metrics_of}
use Rattle.ls_formats.proofs.ContentLemmas.{spelled_fault, spelled_value, metrics_are, metrics_long}
use Rattle.ls_formats.proofs.metrics.MetricsFile.parse.Goals as goal

pub read-requires-clause-format : goal.read-requires-clause-format
read-requires-clause-format c = c.in-None.ensures.first

pub read-requires-clause-long : goal.read-requires-clause-long
read-requires-clause-long c = metrics_long c.args.bytes.now c.in-None.ensures.first

pub returns-in-Some-clause-exact : goal.returns-in-Some-clause-exact
returns-in-Some-clause-exact c = spelled_fault metrics_format AreMetrics metrics_bytes metrics_of metrics_are c.args.bytes.now c.in-Some.at c.in-Some.ensures.first

pub returns-in-None-clause-exact : goal.returns-in-None-clause-exact
returns-in-None-clause-exact c =
    spelled_value metrics_format AreMetrics metrics_bytes metrics_of metrics_are c.args.bytes.now c.in-None.ensures.first
    c.read.result c.read.ensures.same
