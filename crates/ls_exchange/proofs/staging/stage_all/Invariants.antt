use Rattle.std.proofs.Common.{◌≡◌, ◌≤◌, ◌+◌, ◌++◌, IsTrue, length, vec_len, vec_capacity}
use Rattle.ls_board.specs.Runs.{CanRun}
use Rattle.ls_exchange.specs.Exchanges.{new_parts, staging_of}
use Rattle.ls_exchange.specs.Turns.{DraftsAreClear}
use Rattle.ls_exchange.proofs.TurnLemmas.{Completes}
use Rattle.ls_exchange.proofs.staging.stage_all.Given as goal

abbrev pub invariant-loop-draft : goal.invariant-loop-draft
invariant-loop-draft g l = record {
  completes : Completes (g.B.Board.sight l.fn.board) (staging_of l.fn.drafts.items) (g.B.Board.sight l.board) (staging_of l.drafts.items);
  run : CanRun (g.B.Board.sight l.board) (staging_of l.drafts.items);
  clear : IsTrue (g.B.Board.sight l.board).told → DraftsAreClear (g.B.Board.sight l.board).world l.drafts.items;
  put : l.staged.items ++ new_parts l.drafts.items ≡ l.fn.staged.items ++ new_parts l.fn.drafts.items;
  room : vec_len l.staged + length l.drafts.items ≤ vec_capacity l.staged;
}

abbrev pub decreases-loop-draft : goal.decreases-loop-draft
decreases-loop-draft g l = vec_len l.drafts
