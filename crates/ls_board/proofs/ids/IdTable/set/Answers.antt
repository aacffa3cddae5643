use Rattle.std.proofs.Common.{◌∙◌, sym, ap, subst}
use Rattle.std.specs.Prelude.{IsSome, slice_get}
use Rattle.std.specs.Ordering.{nat_cmp}
use Rattle.std.specs.FinMap.Entries.{find, put}
use Rattle.std.proofs.lemmas.Cmp.{nat_cmp_total}
use Rattle.std.proofs.lemmas.Map.Lookups.{exact_unsigned}
use Rattle.ls_board.specs.Order.{meets, place_by}
use Rattle.ls_board.proofs.PutLemmas.{set_is_put, set_keeps, found_meets}
use Rattle.ls_board.proofs.ids.IdTable.set.Goals as goal

pub invariant_of-self : goal.invariant_of-self
invariant_of-self g c =
    set_keeps nat_cmp nat_cmp_total exact_unsigned c.args.id c.args.value c.self.inside.rows.items c.place-at.result
    (c.place-at.ensures.count ∙ (λ i. place_by (λ r. nat_cmp c.args.id r.0) (c.deref.ensures.value i)))
    (sym (c.is_there.ensures.same ∙ (λ i. meets (λ r. nat_cmp c.args.id r.0) (slice_get (c.deref-2.ensures.value i) c.place-at.result))) ∙ c.if-is_there.true)
    c.self.invariant

pub returns-then-is_there-clause-rows : goal.returns-then-is_there-clause-rows
returns-then-is_there-clause-rows g c =
    set_is_put nat_cmp nat_cmp_total exact_unsigned c.args.id c.args.value c.self.inside.rows.items c.place-at.result
    (c.place-at.ensures.count ∙ (λ i. place_by (λ r. nat_cmp c.args.id r.0) (c.deref.ensures.value i)))
    (sym (c.is_there.ensures.same ∙ (λ i. meets (λ r. nat_cmp c.args.id r.0) (slice_get (c.deref-2.ensures.value i) c.place-at.result))) ∙ c.if-is_there.true)
    ∙ ap (λ p. put nat_cmp c.args.id c.args.value p.rows) c.self.view_is

pub returns-else-is_there-clause-rows : goal.returns-else-is_there-clause-rows
returns-else-is_there-clause-rows g c =
    let same = c.is_there.ensures.same
    ∙ (λ i. meets (λ r. nat_cmp c.args.id r.0) (slice_get (c.deref-2.ensures.value i) (c.place-at.ensures.count i)))
    ∙ (λ i. meets (λ r. nat_cmp c.args.id r.0) (slice_get c.self.inside.rows.items (place_by (λ r. nat_cmp c.args.id r.0) (c.deref.ensures.value i)))) in
    let found = found_meets nat_cmp nat_cmp_total c.args.id c.self.inside.rows.items c.self.invariant.sorted
    (subst (λ p. IsSome (find nat_cmp c.args.id p.rows)) (sym c.self.view_is) c.requires.there) in
    let no = sym found ∙ sym same ∙ c.if-is_there.false in
    absurd (cc)
