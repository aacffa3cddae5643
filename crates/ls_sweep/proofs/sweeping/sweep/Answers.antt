use Rattle.std.proofs.Common.{◌∷◌, [], Bool, List}
use Rattle.std.proofs.lemmas.Result.{err_from_is_err_and}
use Rattle.ls_naming.specs.Named.{only_if}
use Rattle.ls_board.specs.declared.action.Action.{Action}
use Rattle.ls_board.specs.declared.action.Action.TheVariants.{ResumeTake, Sync}
use Rattle.ls_sweep.proofs.LastLemmas.{can_first, can_second, can_third, broke_first, broke_second, three_steps}
use Rattle.ls_sweep.proofs.sweeping.sweep.Goals as goal

abbrev taking : Bool → List Action
taking takes = only_if takes (ResumeTake ∷ [])

abbrev last : List Action
last = Sync ∷ []

pub run-requires : goal.run-requires
run-requires g c = record {
  run = can_first c.planned.inside.plan (taking c.planned.inside.takes_cell) last c.args.planned.now c.planned.view_is (g.B.Board.sight c.args.board.now) c.requires.run;
}

pub returns-in_err-run : goal.returns-in_err-run
returns-in_err-run g c =
    let e = err_from_is_err_and c.from_residual.result c.from_residual.ensures.1 in
    record {
      steps = rw (e.1, e.2)
          (broke_first c.planned.inside.plan (taking c.planned.inside.takes_cell) last c.args.planned.now c.planned.view_is (g.B.Board.sight c.args.board.now) (g.B.Board.sight c.run.new.board)
          c.in_err-run.field-0.0 c.in_err-run.ensures.steps);
    }

pub take_cell-requires : goal.take_cell-requires
take_cell-requires g c = record {
  run = can_second c.planned.inside.plan (taking c.planned.inside.takes_cell) last c.args.planned.now c.planned.view_is (g.B.Board.sight c.args.board.now) (g.B.Board.sight c.run.new.board)
      c.requires.run c.in_ok-run.ensures.steps.did;
}

pub returns-in_err-take_cell : goal.returns-in_err-take_cell
returns-in_err-take_cell g c =
    let e = err_from_is_err_and c.from_residual-in_err-take_cell.result c.from_residual-in_err-take_cell.ensures.1 in
    record {
      steps = rw (e.1, e.2)
          (broke_second c.planned.inside.plan (taking c.planned.inside.takes_cell) last c.args.planned.now c.planned.view_is (g.B.Board.sight c.args.board.now) (g.B.Board.sight c.run.new.board) (g.B.Board.sight c.take_cell.new.board)
          c.in_err-take_cell.field-0.0 c.in_ok-run.ensures.steps c.in_err-take_cell.ensures.steps);
    }

pub sync-requires : goal.sync-requires
sync-requires g c = record {
  run = can_third c.planned.inside.plan (taking c.planned.inside.takes_cell) last c.args.planned.now c.planned.view_is (g.B.Board.sight c.args.board.now) (g.B.Board.sight c.run.new.board) (g.B.Board.sight c.take_cell.new.board)
      c.requires.run c.in_ok-run.ensures.steps.did c.in_ok-take_cell.ensures.steps.did;
}

pub returns : goal.returns
returns g c = record {
  steps =
      three_steps c.planned.inside.plan (taking c.planned.inside.takes_cell) last c.args.planned.now c.planned.view_is (g.B.Board.sight c.args.board.now) (g.B.Board.sight c.run.new.board) (g.B.Board.sight c.take_cell.new.board) (g.B.Board.sight c.sync.new.board)
      c.sync.result c.in_ok-run.ensures.steps c.in_ok-take_cell.ensures.steps c.sync.ensures.steps;
}
