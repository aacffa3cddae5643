use Rattle.std.proofs.Common.{◌≡◌, ◌≤◌, ◌^◌, ℕ, List, [], IsTrue}
use Rattle.ls_board.specs.Acts.{Sight}
use Rattle.ls_top.specs.Serving.{Serving}
use Rattle.ls_top.proofs.HearingLemmas.{HeardSoFar}
use Rattle.ls_top.proofs.hearing.hear_all.Given as goal

abbrev pub invariant-loop-left : goal.invariant-loop-left
invariant-loop-left g l = record {
  told : (g.B.Board.sight l.board).told ≡ (g.B.Board.sight l.fn.board).told;
  never_fails : (g.B.Board.sight l.board).never_fails ≡ (g.B.Board.sight l.fn.board).never_fails;
  slots : (g.B.Board.sight l.board).slots ≡ (g.B.Board.sight l.fn.board).slots;
  faults : (g.B.Board.sight l.board).faults ≡ (g.B.Board.sight l.fn.board).faults;
  most : l.left ≤ 2 ^ 30;
  heard : IsTrue (g.B.Board.sight l.fn.board).told
      → (start : Sight) (first : List ℕ)
      → (g.B.Board.sight l.fn.board).world.input ≡ start.world.input → l.fn.line ≡ []
      → Serving start (g.B.Board.sight l.fn.board) first [] l.fn.users
      → HeardSoFar start (g.B.Board.sight l.board) first l.users l.line l.left;
}

abbrev pub decreases-loop-left : goal.decreases-loop-left
decreases-loop-left g l = l.left
