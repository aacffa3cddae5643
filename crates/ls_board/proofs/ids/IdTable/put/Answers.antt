use Rattle.std.proofs.Common.{◌∙◌, ap, arith}
use Rattle.std.specs.Ordering.{nat_cmp}
use Rattle.std.specs.FinMap.Entries.{put}
use Rattle.std.proofs.lemmas.Cmp.{nat_cmp_total}
use Rattle.std.proofs.lemmas.Map.Lookups.{exact_unsigned}
use Rattle.ls_board.proofs.PutLemmas.{put_by_key, put_keeps}
use Rattle.ls_board.proofs.ids.IdTable.put.Goals as goal

pub invariant_of-self : goal.invariant_of-self
invariant_of-self g c =
    put_keeps nat_cmp nat_cmp_total exact_unsigned _ _ _ _ c.put_row.result c.self.invariant
    (omega (arith, ap (λ p. p.spare) c.self.view_is, c.requires.place)) c.put_row.ensures.put c.put_row.ensures.kept

pub returns-clause-rows : goal.returns-clause-rows
returns-clause-rows g c =
    c.in-Ok.ensures.put ∙ put_by_key nat_cmp exact_unsigned c.args.id c.args.value c.self.inside.rows.items ∙ ap (λ p. put nat_cmp c.args.id c.args.value p.rows) c.self.view_is
