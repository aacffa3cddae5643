use Rattle.ls_naming.proofs.NamingLemmas.{record_named}
use Rattle.ls_naming.proofs.laws.named_files_have_names.Goals as goal

pub returns : goal.returns
returns c = record_named
