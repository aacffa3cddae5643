use Rattle.ls_blob.proofs.ParsingLemmas.{spelled_without_fault}
use Rattle.ls_blob.proofs.sp_blob.SpBlob.parse.Goals as goal

pub returns-in_err-of-clause-spelled : goal.returns-in_err-of-clause-spelled
returns-in_err-of-clause-spelled c = spelled_without_fault c.args.bytes.now

pub returns-clause-spelled : goal.returns-clause-spelled
returns-clause-spelled c = spelled_without_fault c.args.bytes.now
