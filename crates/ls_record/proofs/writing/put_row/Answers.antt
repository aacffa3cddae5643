use Rattle.std.proofs.Common.{length, ap}
use Rattle.ls_record.proofs.WriteLemmas.{row_put}
use Rattle.ls_record.proofs.writing.put_row.Goals as goal

pub returns : goal.returns
returns c = record {
  put =
      row_put c.args.to.now c.args.row.now c.put_be32.new.to c.put_bytes.new.to c.put_be64.new.to c.put_be64-2.new.to c.put_count.new.to c.put_ids.new.to c.as_slice-2.result.now
      c.flag.result c.code.result c.flag-2.result (length c.as_slice.result.now)
      c.in_ok-put_be32.ensures.put c.in_ok-put_bytes.ensures.put c.in_ok-put_be64.ensures.put c.in_ok-put_be64-2.ensures.put c.in_ok-put_count.ensures.put c.in_ok-put_ids.ensures.put
      c.flag.ensures.same c.code.ensures.same c.flag-2.ensures.same (ap length c.as_slice.ensures.same) c.as_slice-2.ensures.same;
}
