use Rattle.std.proofs.Common.{List, ℕ, subst}
use Rattle.ls_top.specs.FoundUsers.{IsFound}
use Rattle.ls_top.proofs.OpeningLemmas.{opening_is}
use Rattle.ls_top.proofs.opening.open.Goals as goal

pub returns-clause-opens : goal.returns-clause-opens
returns-clause-opens g c = λ told.
    let reads = c.in_ok-answer.ensures.reads told in
    record {
      same = reads.same;
      calls = reads.calls;
      synced = reads.synced;
      found = opening_is (g.B.Board.sight c.args.board.now).world c.in_ok-answer.answer c.read_synced.new.out.items c.in_ok-found.field-0 reads.found
          (subst (λ (l : List ℕ). IsFound c.in_ok-answer.answer l c.in_ok-found.field-0) c.deref.ensures.value c.in_ok-found.ensures.found);
    }
