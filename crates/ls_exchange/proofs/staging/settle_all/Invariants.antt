use Rattle.std.proofs.Common.{◌≡◌, ◌≤◌, ◌+◌, ◌++◌, length, vec_len, vec_capacity}
use Rattle.ls_board.specs.Runs.{CanRun}
use Rattle.ls_exchange.specs.Exchanges.{settling_of}
use Rattle.ls_exchange.proofs.TurnLemmas.{Completes}
use Rattle.ls_exchange.proofs.staging.settle_all.Given as goal

abbrev pub invariant-loop-one : goal.invariant-loop-one
invariant-loop-one g l = record {
  completes : Completes (g.B.Board.sight l.fn.board) (settling_of l.fn.staged.items) (g.B.Board.sight l.board) (settling_of l.staged.items);
  run : CanRun (g.B.Board.sight l.board) (settling_of l.staged.items);
  put : l.durable.items ++ l.staged.items ≡ l.fn.durable.items ++ l.fn.staged.items;
  room : vec_len l.durable + length l.staged.items ≤ vec_capacity l.durable;
}

abbrev pub decreases-loop-one : goal.decreases-loop-one
decreases-loop-one g l = vec_len l.staged
