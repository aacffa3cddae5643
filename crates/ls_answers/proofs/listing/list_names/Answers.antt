use Rattle.std.proofs.Common.{◌≤◌, ◌+◌, ◌++◌, arith, ap, sym, ◌∙◌, subst, ℕ, List, length, take, map}
use Rattle.ls_bytes.specs.Names.{IsName}
use Rattle.ls_board.specs.Listing.{line_of}
use Rattle.ls_board.specs.Order.{byte_cmp}
use Rattle.ls_answers.proofs.ListingLemmas.{Listed, listed_more, listed_all, keys_ascend, keys_listed}
use Rattle.ls_answers.proofs.listing.list_names.Goals as goal

pub loop-at-preserved : goal.loop-at-preserved
loop-at-preserved c =
    let files = c.args.files.now in
    let row = c.in-Some.file.now in
    let name = ap (λ (r : List ℕ × List ℕ). r.0) c.file.view_is in
    let put = c.in_ok-put_line.ensures.put ∙ ap (λ (n : List ℕ). c.loop-at.out.items ++ line_of n) (c.as_slice.ensures.same ∙ name) in
    subst (Listed line_of IsName (take (c.loop-at.at + 1) files)) (sym put)
    (listed_more line_of IsName files c.loop-at.at row c.loop-at.out.items c.in-Some.ensures.found c.loop-at.invariant (subst IsName name c.as_slice.ensures.is_name))

pub returns-clause-names : goal.returns-clause-names
returns-clause-names c =
    let files = c.args.files.now in
    let all : length files ≤ c.loop-at.at = omega (arith, c.len-at-end.ensures.count, c.loop-at-test.false) in
    let listed = listed_all line_of IsName files c.loop-at.at c.loop-at.out.items all c.loop-at.invariant in
    record {
      names = map (λ (r : List ℕ × List ℕ). r.0) files;
      each = listed.each;
      ascending = keys_ascend byte_cmp files c.len-at-end.ensures.table.sorted;
      is = listed.is ∙ keys_listed line_of files;
    }

pub returns-clause-listed : goal.returns-clause-listed
returns-clause-listed c =
    let files = c.args.files.now in
    let all : length files ≤ c.loop-at.at = omega (arith, c.len-at-end.ensures.count, c.loop-at-test.false) in
    let listed = listed_all line_of IsName files c.loop-at.at c.loop-at.out.items all c.loop-at.invariant in
    record { is = listed.is; each = listed.each }
