use Rattle.std.proofs.Common.{◌++◌, ◌∙◌}
use Rattle.ls_record.specs.Spelling.{row_bytes}
use Rattle.ls_record.proofs.WriteLemmas.{put_more}
use Rattle.ls_record.proofs.writing.put_rows.Goals as goal

pub loop-row-preserved : goal.loop-row-preserved
loop-row-preserved c =
    c.in_ok-put_row.ensures.put ∙ (λ i. c.loop-row.invariant i ++ row_bytes 2 (c.row-item.is i))
    ∙ put_more (row_bytes 2) c.args.to.now c.args.rows.now c.loop-row.row-index c.row-item.result c.loop-row-test.true
