use Rattle.std.proofs.Common.{◌≡◌, ◌≤◌, IsTrue}
use Rattle.ls_serving.proofs.ScriptLemmas.{TextSoFar}
use Rattle.ls_serving.proofs.script.hear_script.Given as goal

abbrev pub invariant-loop-left : goal.invariant-loop-left
invariant-loop-left g l = record {
  told : (g.B.Board.sight l.board).told ≡ (g.B.Board.sight l.fn.board).told;
  never_fails : (g.B.Board.sight l.board).never_fails ≡ (g.B.Board.sight l.fn.board).never_fails;
  slots : (g.B.Board.sight l.board).slots ≡ (g.B.Board.sight l.fn.board).slots;
  faults : (g.B.Board.sight l.board).faults ≡ (g.B.Board.sight l.fn.board).faults;
  most : l.left ≤ l.longest;
  heard : IsTrue (g.B.Board.sight l.fn.board).told
      → TextSoFar (g.B.Board.sight l.fn.board) (g.B.Board.sight l.board) l.text l.left l.longest;
}

abbrev pub decreases-loop-left : goal.decreases-loop-left
decreases-loop-left g l = l.left
