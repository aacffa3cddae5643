use Rattle.std.proofs.Common.{◌≡◌, ◌≤◌, ◌+◌, ◌++◌, IsTrue, List, length, vec_len, vec_capacity}
use Rattle.ls_board.specs.Runs.{CanRun}
use Rattle.ls_formats.specs.declared.parts.Parts.{Parts}
use Rattle.ls_exchange.specs.Exchanges.{retiring_of}
use Rattle.ls_exchange.specs.Turns.{RetiredAreClear}
use Rattle.ls_exchange.proofs.TurnLemmas.{Completes}
use Rattle.ls_exchange.proofs.clearing.retire_all.Given as goal

abbrev pub invariant-loop-named : goal.invariant-loop-named
invariant-loop-named g l = record {
  completes : Completes (g.B.Board.sight l.fn.board) (retiring_of l.fn.all.items) (g.B.Board.sight l.board) (retiring_of l.all.items);
  run : CanRun (g.B.Board.sight l.board) (retiring_of l.all.items);
  clear : IsTrue (g.B.Board.sight l.board).told → RetiredAreClear (g.B.Board.sight l.board).world l.all.items;
  done : List Parts;
  put : l.retired.items ≡ l.fn.retired.items ++ done;
  left : l.fn.all.items ≡ done ++ l.all.items;
  room : vec_len l.retired + length l.all.items ≤ vec_capacity l.retired;
}

abbrev pub decreases-loop-named : goal.decreases-loop-named
decreases-loop-named g l = vec_len l.all
