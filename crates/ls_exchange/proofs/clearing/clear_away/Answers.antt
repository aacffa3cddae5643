use Rattle.std.proofs.Common.{Ok, Err}
use Rattle.ls_board.proofs.CallLemmas.{can_front, can_rest}
use Rattle.ls_exchange.specs.Exchanges.{retiring_of}
use Rattle.ls_exchange.proofs.TurnLemmas.{runs_front, runs_behind}
use Rattle.ls_exchange.proofs.clearing.clear_away.Goals as goal

pub retire_all-requires-clause-run : goal.retire_all-requires-clause-run
retire_all-requires-clause-run g c = can_front (g.B.Board.sight c.args.board.now) (retiring_of c.args.all.items) c.args.after.now c.requires.run

pub returns-in-Err-clause-runs : goal.returns-in-Err-clause-runs
returns-in-Err-clause-runs g c = runs_front (g.B.Board.sight c.args.board.now) (g.B.Board.sight c.retire_all.new.board) (retiring_of c.args.all.items) c.args.after.now c.in-Err.part c.in-Err.ensures.runs

pub run_others-requires-clause-run : goal.run_others-requires-clause-run
run_others-requires-clause-run g c =
    can_rest (g.B.Board.sight c.args.board.now) (g.B.Board.sight c.retire_all.new.board) (retiring_of c.args.all.items) c.args.after.now c.requires.run c.in_default.ensures.runs.did

pub returns-in-Ok-clause-runs : goal.returns-in-Ok-clause-runs
returns-in-Ok-clause-runs g c =
    runs_behind (g.B.Board.sight c.args.board.now) (g.B.Board.sight c.retire_all.new.board) (g.B.Board.sight c.run_others.new.board) (retiring_of c.args.all.items) c.args.after.now (Ok tt)
    c.in_default.ensures.runs c.in-Ok.ensures.runs

pub returns-in-Err-run_others-clause-runs : goal.returns-in-Err-run_others-clause-runs
returns-in-Err-run_others-clause-runs g c =
    runs_behind (g.B.Board.sight c.args.board.now) (g.B.Board.sight c.retire_all.new.board) (g.B.Board.sight c.run_others.new.board) (retiring_of c.args.all.items) c.args.after.now
    (Err c.in-Err-run_others.part) c.in_default.ensures.runs c.in-Err-run_others.ensures.runs
