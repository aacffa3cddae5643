use Rattle.std.proofs.Common.{[]}
use Rattle.std.proofs.lemmas.Result.{err_from_is_err_and}
use Rattle.ls_record.specs.Reading.{repeat, next_row_at}
use Rattle.ls_record.proofs.RepeatLemmas.{goes_on, ends, is_done}
use Rattle.ls_record.proofs.body.BodyReader.rows.Goals as goal

pub returns-in_err-row : goal.returns-in_err-row
returns-in_err-row c =
    let p = err_from_is_err_and c.from_residual.result c.from_residual.ensures.1 in
    let item = (next_row_at c.args.format) in
    let told = rw c.as_slice.ensures.same at c.in_err-row.ensures.gives in
    record {
      gives = rw (p.1, p.2) (ends item (repeat item [] c.args.n c.args.self.now) c.loop.rows c.args.n c.loop.counter c.loop.self c.loop.invariant
          c.in_err-row.field-0.0 c.loop-test.true told);
    }

pub loop-preserved : goal.loop-preserved
loop-preserved c =
    let item = (next_row_at c.args.format) in
    let read = rw c.as_slice.ensures.same at c.in_ok-row.ensures.gives in
    rw c.in_ok-push.ensures.put (goes_on item (repeat item [] c.args.n c.args.self.now) c.loop.rows c.args.n c.loop.counter c.loop.self c.loop.invariant
    c.in_ok-row.row c.next_row.new.self c.loop-test.true read)

pub returns : goal.returns
returns c =
    let item = (next_row_at c.args.format) in
    record { gives = is_done item (repeat item [] c.args.n c.args.self.now) c.loop.rows c.args.n c.loop.counter c.loop.self c.loop.invariant c.loop-test.false }
