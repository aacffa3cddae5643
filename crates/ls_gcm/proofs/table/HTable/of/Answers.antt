use Rattle.std.proofs.Common.{◌≡◌, slice_index, ap, sym, ◌∙◌, arith}
use Rattle.ls_gcm.specs.Blocks.{product_of}
use Rattle.ls_gcm.proofs.ProductLemmas.{product_one}
use Rattle.ls_gcm.proofs.table.HTable.of.Goals as goal

pub invariant_of-result : goal.invariant_of-result
invariant_of-result c = λ n lt.
    let one : slice_index c.multiples.result 8 ≡ c.from_be_bytes.result =
    c.multiples.ensures 8 (omega arith) ∙ product_one c.from_be_bytes.result in
    c.multiples.ensures n lt ∙ ap (product_of 4 n) (sym one)

pub returns : goal.returns
returns c = record {
  same = c.multiples.ensures 8 (omega arith) ∙ product_one c.from_be_bytes.result ∙ c.from_be_bytes.ensures;
}
