use Rattle.std.proofs.Common.{◌∙◌, ap, rules, not}
use Rattle.std.specs.Ordering.{eq_by_cmp}
use Rattle.std.proofs.lemmas.Cmp.{nat_list_cmp_total}
use Rattle.std.proofs.lemmas.Fn.{filter_same}
use Rattle.ls_board.specs.Order.{byte_cmp, without}
use Rattle.ls_board.proofs.PutLemmas.{without_table}
use Rattle.ls_board.proofs.files.FileTable.remove.Goals as goal

pub invariant_of-self : goal.invariant_of-self
invariant_of-self c =
    without_table byte_cmp nat_list_cmp_total _ _ c.args.name.now c.self.invariant
    (filter_same _ (λ r. not (eq_by_cmp byte_cmp c.args.name.now r.0)) _ (λ x b f k. search rules) _ _ c.retain.ensures.filtered)

pub returns : goal.returns
returns c = record {
  removed = filter_same _ (λ r. not (eq_by_cmp byte_cmp c.args.name.now r.0)) _ (λ x b f k. search rules) _ _ c.retain.ensures.filtered
      ∙ ap (without byte_cmp c.args.name.now) c.self.view_is;
}
