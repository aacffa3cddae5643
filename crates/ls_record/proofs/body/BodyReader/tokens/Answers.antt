use Rattle.std.proofs.Common.{[]}
use Rattle.std.proofs.lemmas.Result.{err_from_is_err_and}
use Rattle.ls_record.specs.Reading.{repeat, token_at}
use Rattle.ls_record.proofs.RepeatLemmas.{goes_on, ends, is_done}
use Rattle.ls_record.proofs.body.BodyReader.tokens.Goals as goal

pub returns-in_err-token : goal.returns-in_err-token
returns-in_err-token c =
    let p = err_from_is_err_and c.from_residual.result c.from_residual.ensures.1 in
    let item = (token_at c.args.rows.now c.args.user) in
    let told = rw c.as_slice.ensures.same at c.in_err-token.ensures.gives in
    record {
      gives = rw (p.1, p.2) (ends item (repeat item [] c.args.n c.args.self.now) c.loop.tokens c.args.n c.loop.counter c.loop.self c.loop.invariant
          c.in_err-token.field-0.0 c.loop-test.true told);
    }

pub loop-preserved : goal.loop-preserved
loop-preserved c =
    let item = (token_at c.args.rows.now c.args.user) in
    let read = rw c.as_slice.ensures.same at c.in_ok-token.ensures.gives in
    rw c.in_ok-push.ensures.put (goes_on item (repeat item [] c.args.n c.args.self.now) c.loop.tokens c.args.n c.loop.counter c.loop.self c.loop.invariant
    c.in_ok-token.token c.token.new.self c.loop-test.true read)

pub returns : goal.returns
returns c =
    let item = (token_at c.args.rows.now c.args.user) in
    record { gives = is_done item (repeat item [] c.args.n c.args.self.now) c.loop.tokens c.args.n c.loop.counter c.loop.self c.loop.invariant c.loop-test.false }
