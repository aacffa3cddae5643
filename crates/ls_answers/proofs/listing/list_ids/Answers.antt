use Rattle.std.proofs.Common.{◌≤◌, ◌<◌, ◌+◌, ◌^◌, arith, sym, ◌∙◌, subst, length, take, map}
use Rattle.std.specs.Ordering.{nat_cmp}
use Rattle.ls_bytes.specs.Fields.{be64}
use Rattle.ls_answers.proofs.ListingLemmas.{Listed, none_past, listed_more, listed_all, keys_ascend, keys_listed}
use Rattle.ls_answers.proofs.listing.list_ids.Goals as goal

pub loop-at-preserved : goal.loop-at-preserved
loop-at-preserved g c =
    let rows = c.args.rows.now.rows in
    let row = c.in-Some.row.now in
    subst (Listed be64 (λ number. number < 2 ^ 64) (take (c.loop-at.at + 1) rows)) (sym c.in_ok-put_field.ensures.put)
    (listed_more be64 (λ number. number < 2 ^ 64) rows c.loop-at.at row c.loop-at.out.items (sym c.in-Some.ensures.found) c.loop-at.invariant c.in_ok-put_field.ensures.fits)

pub returns-clause-listed : goal.returns-clause-listed
returns-clause-listed g c =
    let rows = c.args.rows.now.rows in
    let all : length rows ≤ c.loop-at.at = omega (arith, c.len-at-end.ensures.count, c.loop-at-test.false) in
    let listed = listed_all be64 (λ number. number < 2 ^ 64) rows c.loop-at.at c.loop-at.out.items all c.loop-at.invariant in
    record { is = listed.is; each = listed.each }

pub returns-clause-numbers : goal.returns-clause-numbers
returns-clause-numbers g c =
    let rows = c.args.rows.now.rows in
    let all : length rows ≤ c.loop-at.at = omega (arith, c.len-at-end.ensures.count, c.loop-at-test.false) in
    let listed = listed_all be64 (λ number. number < 2 ^ 64) rows c.loop-at.at c.loop-at.out.items all c.loop-at.invariant in
    record {
      numbers = map (λ row. row.0) rows;
      each = listed.each;
      ascending = keys_ascend nat_cmp rows c.len-at-end.ensures.table.sorted;
      is = listed.is ∙ keys_listed be64 rows;
    }

pub loop-at-init : goal.loop-at-init
loop-at-init g c = record { is = c.requires.empty; each = tt }

pub returns-in_default-clause-listed : goal.returns-in_default-clause-listed
returns-in_default-clause-listed g c =
    let past = none_past c.args.rows.now.rows c.loop-at.at (sym c.in_default.ensures.found) in
    absurd (omega (arith, past, c.len-at-end.ensures.count, c.loop-at-test.true))

pub returns-in_default-clause-numbers : goal.returns-in_default-clause-numbers
returns-in_default-clause-numbers g c =
    let past = none_past c.args.rows.now.rows c.loop-at.at (sym c.in_default.ensures.found) in
    absurd (omega (arith, past, c.len-at-end.ensures.count, c.loop-at-test.true))
