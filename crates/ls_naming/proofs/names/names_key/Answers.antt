use Rattle.ls_naming.proofs.MembershipLemmas.{key_found}
use Rattle.ls_naming.proofs.names.names_key.Goals as goal

pub returns : goal.returns
returns c = record { named = key_found c.args.holder.now c.args.alias c.key_is_named.result c.key_is_named.ensures.same }
