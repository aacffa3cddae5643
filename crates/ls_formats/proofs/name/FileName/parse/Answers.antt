use Rattle.ls_formats.proofs.NameLemmas.{name_reads, name_spelled_fault, name_spelled}
use Rattle.ls_formats.proofs.name.FileName.parse.Goals as goal

pub read-requires : goal.read-requires
read-requires c = name_reads c.args.bytes.now c.in-None.ensures.first

pub returns-in-Some-clause-exact : goal.returns-in-Some-clause-exact
returns-in-Some-clause-exact c = name_spelled_fault c.args.bytes.now c.in-Some.at c.in-Some.ensures.first

pub returns-in-None-clause-exact : goal.returns-in-None-clause-exact
returns-in-None-clause-exact c = name_spelled c.args.bytes.now c.in-None.ensures.first c.read.result c.read.ensures.again
