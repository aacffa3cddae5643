use Rattle.std.proofs.Common.{◌≡◌, ◌++◌, ℕ, List, IsTrue, take}
use Rattle.ls_board.specs.Acts.{Sight}
use Rattle.ls_top.specs.Serving.{Progress}
use Rattle.ls_top.proofs.hearing.serve_piece.Given as goal

abbrev pub invariant-loop-b : goal.invariant-loop-b
invariant-loop-b g l = record {
  told : (g.B.Board.sight l.board).told ≡ (g.B.Board.sight l.fn.board).told;
  never_fails : (g.B.Board.sight l.board).never_fails ≡ (g.B.Board.sight l.fn.board).never_fails;
  slots : (g.B.Board.sight l.board).slots ≡ (g.B.Board.sight l.fn.board).slots;
  faults : (g.B.Board.sight l.board).faults ≡ (g.B.Board.sight l.fn.board).faults;
  input : IsTrue (g.B.Board.sight l.fn.board).told → (g.B.Board.sight l.board).world.input ≡ (g.B.Board.sight l.fn.board).world.input;
  progress : IsTrue (g.B.Board.sight l.fn.board).told
      → (start : Sight) (first heard rest : List ℕ)
      → start.world.input ≡ heard ++ (l.piece ++ rest)
      → Progress start (g.B.Board.sight l.fn.board) first heard l.fn.users l.fn.line
      → Progress start (g.B.Board.sight l.board) first (heard ++ take l.b-index l.piece) l.users l.line;
}
