use Rattle.ls_naming.proofs.MembershipLemmas.{file_found}
use Rattle.ls_naming.proofs.names.names_file.Goals as goal

pub returns : goal.returns
returns c = record { named = file_found c.args.weaver c.args.holder.now c.args.name.now c.file_is_named.result c.file_is_named.ensures.same }
