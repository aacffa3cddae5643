use Rattle.ls_exchange.proofs.TurnLemmas.{plan_ran, plan_broke}
use Rattle.ls_exchange.proofs.others.run_others.Goals as goal

pub returns-in-Ok : goal.returns-in-Ok
returns-in-Ok g c = record {
  runs =
      plan_ran (g.B.Board.sight c.args.board.now) (g.B.Board.sight c.run_plan.new.board) c.args.others.now c.requires.stored c.run_plan.ensures.crash c.in-Ok.ensures.done;
}

pub returns-in-Err : goal.returns-in-Err
returns-in-Err g c = record {
  runs =
      plan_broke (g.B.Board.sight c.args.board.now) (g.B.Board.sight c.run_plan.new.board) c.args.others.now c.requires.stored c.run_plan.ensures.crash
      c.in-Err.fault.at c.in-Err.fault.part c.in-Err.ensures.failed;
}
