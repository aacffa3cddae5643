use Rattle.std.proofs.Common.{◌∙◌, ap, rules, not}
use Rattle.std.specs.Ordering.{nat_cmp, eq_by_cmp}
use Rattle.std.proofs.lemmas.Cmp.{nat_cmp_total}
use Rattle.std.proofs.lemmas.Fn.{filter_same}
use Rattle.ls_board.specs.Order.{without}
use Rattle.ls_board.proofs.PutLemmas.{without_table}
use Rattle.ls_board.proofs.ids.IdTable.remove.Goals as goal

pub invariant_of-self : goal.invariant_of-self
invariant_of-self g c =
    without_table nat_cmp nat_cmp_total _ _ c.args.id c.self.invariant
    (filter_same _ (λ r. not (eq_by_cmp nat_cmp c.args.id r.0)) _ (λ x b f k. search rules) _ _ c.retain.ensures.filtered)

pub returns-clause-rows : goal.returns-clause-rows
returns-clause-rows g c =
    filter_same _ (λ r. not (eq_by_cmp nat_cmp c.args.id r.0)) _ (λ x b f k. search rules) _ _ c.retain.ensures.filtered
    ∙ ap (λ p. without nat_cmp c.args.id p.rows) c.self.view_is
