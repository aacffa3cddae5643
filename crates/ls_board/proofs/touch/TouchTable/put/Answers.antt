use Rattle.std.proofs.Common.{refl, arith}
use Rattle.std.proofs.lemmas.Cmp.{nat_list_cmp_total}
use Rattle.std.proofs.lemmas.Map.Lookups.{exact_bytes}
use Rattle.ls_board.specs.Order.{byte_cmp}
use Rattle.ls_board.proofs.PutLemmas.{put_as_keyed, put_keeps}
use Rattle.ls_board.proofs.touch.TouchTable.put.Goals as goal

pub invariant_of-self : goal.invariant_of-self
invariant_of-self c = put_keeps byte_cmp nat_list_cmp_total exact_bytes _ _ _ _ c.put_row.result c.self.invariant (omega arith) c.put_row.ensures.put c.put_row.ensures.kept

pub returns-clause-put : goal.returns-clause-put
returns-clause-put c = put_as_keyed byte_cmp nat_list_cmp_total exact_bytes _ _ _ _ _ _ _ c.put_row.result c.in_ok-copied_name.ensures.same refl c.self.view_is c.put_row.ensures.put
