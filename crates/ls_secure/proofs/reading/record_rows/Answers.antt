use Rattle.std.proofs.Common.{◌≡◌, ◌∙◌, ◌+◌, ◌++◌, drop, arith}
use Rattle.std.specs.List.{flat_map}
use Rattle.std.specs.Ordering.{nat_cmp}
use Rattle.std.specs.FinMap.Entries.{put}
use Rattle.ls_secure.specs.Secure.{IsRecordRow, record_bytes}
use Rattle.ls_secure.proofs.ReadingLemmas.{inside, next, ended, put_more}
use Rattle.ls_secure.proofs.reading.record_rows.Goals as goal

pub returns-in_err-row : goal.returns-in_err-row
returns-in_err-row c = record {
  gives = λ ys rest count fits sorted is.
      let so_far = c.loop.invariant ys rest count fits sorted is in
      let n = next record_bytes IsRecordRow ys c.loop.counter c.loop.reader.left rest (omega arith) fits so_far.1 in
      let gave = c.record.ensures.gives n.row (flat_map record_bytes (drop (c.loop.counter + 1) ys) ++ rest) n.good n.is in
      absurd (cc (c.in_err-row.was, gave.0));
}

pub loop-preserved : goal.loop-preserved
loop-preserved c =
    λ ys rest count fits sorted is.
    let so_far = c.loop.invariant ys rest count fits sorted is in
    let n = next record_bytes IsRecordRow ys c.loop.counter c.loop.reader.left rest (omega arith) fits so_far.1 in
    let gave = c.record.ensures.gives n.row (flat_map record_bytes (drop (c.loop.counter + 1) ys) ++ rest) n.good n.is in
    let row = inside c.record.result c.in_ok-row.row n.row c.in_ok-row.was gave.0 in
    let before = c.in_ok-reserve.ensures.rows ∙ so_far.0 in
    (c.put.ensures.rows ∙ ((λ i. put nat_cmp (row i).0 (row i).1 (before i)) ∙ put_more ys c.loop.counter n.row sorted n.there), gave.1)

pub returns : goal.returns
returns c = record {
  gives = λ ys rest count fits sorted is.
      let so_far = c.loop.invariant ys rest count fits sorted is in
      ended record_bytes IsRecordRow ys c.loop.rows.rows c.loop.counter c.loop.reader.left rest (omega arith) so_far.0 so_far.1;
}
