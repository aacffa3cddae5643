use Rattle.std.proofs.Common.{arith}
use Rattle.ls_sweep.proofs.SlotLemmas.{as_many_taken}
use Rattle.ls_sweep.proofs.fresh.lowest_free_slot.Goals as goal

pub returns-clause-room : goal.returns-clause-room
returns-clause-room c = λ few.
    let all = as_many_taken c.args.count c.args.taken.now (λ k below. c.loop-slot.invariant k (omega (arith, below, c.loop-slot-test.false))) in
    absurd (omega (arith, few, all))
