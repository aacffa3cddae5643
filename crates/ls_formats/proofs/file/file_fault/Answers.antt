use Rattle.ls_formats.specs.Files.{format_of}
use Rattle.ls_formats.proofs.FaultLemmas.{told}
use Rattle.ls_formats.proofs.FileLemmas.{format_lives}
use Rattle.ls_formats.proofs.file.file_fault.Goals as goal

pub returns-clause-first : goal.returns-clause-first
returns-clause-first c =
    told (format_of c.args.part) (format_lives c.args.part) c.args.bytes.now c.fault_in.result c.fault_in.ensures.exact
