use Rattle.std.proofs.Common.{take, IsTrue}
use Rattle.ls_board.specs.Runs.{Did, LeavesOnly, PlanImage}
use Rattle.ls_board.proofs.plan.run_plan.Given as goal

abbrev pub invariant-loop-at : goal.invariant-loop-at
invariant-loop-at g l = record {
  did : Did (g.B.Board.sight l.fn.board) (take l.at l.action-items) (g.B.Board.sight l.board);
  crash : IsTrue (g.B.Board.sight l.fn.board).told → LeavesOnly (g.B.Board.sight l.fn.board) (g.B.Board.sight l.board) (PlanImage (g.B.Board.sight l.fn.board).world l.action-items);
}
