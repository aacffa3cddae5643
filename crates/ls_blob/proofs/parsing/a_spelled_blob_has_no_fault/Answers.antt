use Rattle.ls_blob.proofs.ParsingLemmas.{spelled_has_no_fault}
use Rattle.ls_blob.proofs.parsing.a_spelled_blob_has_no_fault.Goals as goal

pub returns : goal.returns
returns c = record { none = spelled_has_no_fault }
