use Rattle.std.proofs.Common.{◌≡◌, ◌≤◌, ◌^◌, [], IsTrue}
use Rattle.ls_board.specs.Acts.{Sight}
use Rattle.ls_serving.specs.Serving.{Serving}
use Rattle.ls_serving.proofs.HearingLemmas.{HeardSoFar, InputSoFar}
use Rattle.ls_serving.proofs.hearing.hear_all.Given as goal

abbrev pub invariant-loop-left : goal.invariant-loop-left
invariant-loop-left g l = record {
  told : (g.B.Board.sight l.board).told ≡ (g.B.Board.sight l.fn.board).told;
  never_fails : (g.B.Board.sight l.board).never_fails ≡ (g.B.Board.sight l.fn.board).never_fails;
  slots : (g.B.Board.sight l.board).slots ≡ (g.B.Board.sight l.fn.board).slots;
  faults : (g.B.Board.sight l.board).faults ≡ (g.B.Board.sight l.fn.board).faults;
  can : g.S.Service.can l.service (g.B.Board.sight l.board);
  most : l.left ≤ 2 ^ 30;
  input : IsTrue (g.B.Board.sight l.fn.board).told → InputSoFar (g.B.Board.sight l.fn.board).world (g.B.Board.sight l.board).world l.left;
  heard : IsTrue (g.B.Board.sight l.fn.board).told
      → (start : Sight) (first : g.S.Service.machine.Stage)
      → (g.B.Board.sight l.fn.board).world.input ≡ start.world.input → l.fn.line ≡ []
      → Serving g.S.Service.machine (g.S.Service.agrees start.world l.fn.service) start (g.B.Board.sight l.fn.board) first []
      → HeardSoFar g.S.Service.machine (g.S.Service.agrees start.world l.service) start (g.B.Board.sight l.board) first l.line l.left;
}

abbrev pub decreases-loop-left : goal.decreases-loop-left
decreases-loop-left g l = l.left
