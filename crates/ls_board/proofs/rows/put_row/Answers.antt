use Rattle.std.proofs.Common.{sym, ◌∙◌, arith, rules}
use Rattle.std.specs.Prelude.{slice_get}
use Rattle.ls_board.specs.Order.{place_by, meets}
use Rattle.ls_board.proofs.PutLemmas.{replaced, inserted, in_range}
use Rattle.ls_board.proofs.rows.put_row.Goals as goal

pub returns-then-is_there-clause-put : goal.returns-then-is_there-clause-put
returns-then-is_there-clause-put g c =
    let rank = g.R.Ranked.ranking c.args.row in
    replaced rank c.args.row c.args.rows.now.items c.place-at.result (c.place-at.ensures.count ∙ (λ i. place_by rank (c.deref.ensures.value i)))
    (sym (c.is_there.ensures.same ∙ (λ i. meets rank (slice_get (c.deref-2.ensures.value i) c.place-at.result))) ∙ c.if-is_there.true)

pub insert-requires : goal.insert-requires
insert-requires g c =
    let rank = g.R.Ranked.ranking c.args.row in
    omega (arith, in_range rank c.args.row c.args.rows.now.items c.place-at.result (c.place-at.ensures.count ∙ (λ i. place_by rank (c.deref.ensures.value i))))

pub returns-clause-put : goal.returns-clause-put
returns-clause-put g c =
    let rank = g.R.Ranked.ranking c.args.row in
    let put = inserted rank c.args.row c.args.rows.now.items c.place-at.result (c.place-at.ensures.count ∙ (λ i. place_by rank (c.deref.ensures.value i)))
    (sym (c.is_there.ensures.same ∙ (λ i. meets rank (slice_get (c.deref-2.ensures.value i) c.place-at.result))) ∙ c.if-is_there.false) in
    search (rules, put)
