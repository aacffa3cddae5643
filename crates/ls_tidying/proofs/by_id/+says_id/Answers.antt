use Rattle.ls_tidying.proofs.IdLemmas.{says_rest}
use Rattle.ls_tidying.proofs.by_id.+says_id.Goals as goal

pub returns-else-says_it : goal.returns-else-says_it
returns-else-says_it t c = record {
  decided = says_rest c.args.names.now c.name-item.result c.args.id c.says_id.result c.says_it.result c.in-len1-up.len_at_least c.name-item.is c.if-says_it.false c.says_it.ensures.decided c.says_id.ensures.decided;
}
