use Rattle.ls_protector.proofs.StepLemmas.{steps_ran, steps_broke}
use Rattle.ls_sweep.proofs.sweeping.run.Goals as goal

pub returns-in-Ok : goal.returns-in-Ok
returns-in-Ok g c = record {
  steps = steps_ran (g.B.Board.sight c.args.board.now) (g.B.Board.sight c.run_plan.new.board) c.args.plan.now c.run_plan.ensures.crash c.in-Ok.ensures.done;
}

pub returns-in-Err : goal.returns-in-Err
returns-in-Err g c = record {
  steps = steps_broke (g.B.Board.sight c.args.board.now) (g.B.Board.sight c.run_plan.new.board) c.args.plan.now c.run_plan.ensures.crash c.in-Err.fault.at c.in-Err.fault.part c.in-Err.ensures.failed;
}
