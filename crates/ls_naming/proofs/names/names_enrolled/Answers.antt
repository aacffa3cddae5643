use Rattle.ls_naming.proofs.MembershipLemmas.{enrolled_found}
use Rattle.ls_naming.proofs.names.names_enrolled.Goals as goal

pub returns : goal.returns
returns c = record { named = enrolled_found c.args.weaver c.args.holder.now c.args.id c.enrolled_is_named.result c.enrolled_is_named.ensures.same }
