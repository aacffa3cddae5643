use Rattle.std.proofs.Common.{sym, ◌∙◌}
use Rattle.ls_secure.specs.Secure.{IsRecordRow, record_bytes}
use Rattle.ls_secure.proofs.JoinedLemmas.{joined_more, all_more}
use Rattle.ls_secure.proofs.printing.put_records.Goals as goal

pub loop-at-preserved : goal.loop-at-preserved
loop-at-preserved c = record {
  put = c.in_ok-put_record.ensures.put ∙ joined_more record_bytes c.args.records.now.rows c.loop-at.at c.in-Some.row.now c.put_u32.new.out.items c.loop-at.out.items (sym c.in-Some.ensures.found) c.loop-at.invariant.put;
  each = all_more IsRecordRow c.args.records.now.rows c.loop-at.at c.in-Some.row.now (sym c.in-Some.ensures.found) c.in_ok-put_record.ensures.fits c.loop-at.invariant.each;
}
