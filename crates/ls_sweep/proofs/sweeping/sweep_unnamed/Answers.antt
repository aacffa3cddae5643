use Rattle.std.proofs.Common.{subst}
use Rattle.std.proofs.lemmas.Result.{err_from_is_err_and}
use Rattle.ls_record.specs.Rows.{IsRecord}
use Rattle.ls_sweep.specs.Swept.{IsSweepOf}
use Rattle.ls_sweep.proofs.SweptLemmas.{not_begun, all_swept, broken_off}
use Rattle.ls_sweep.proofs.sweeping.sweep_unnamed.Goals as goal

pub returns-in_err-planned : goal.returns-in_err-planned
returns-in_err-planned g c =
    let p = err_from_is_err_and c.from_residual.result c.from_residual.ensures.1 in
    record {
      sweeps = rw (p.1, p.2)
          (not_begun (λ w actions. IsSweepOf w c.args.holder.now actions) (g.B.Board.sight c.args.board.now) (g.B.Board.sight c.prepare.new.board) c.args.holder.now
          c.in_err-planned.field-0.0 c.in_err-planned.ensures.reads);
    }

pub returns-in-Ok : goal.returns-in-Ok
returns-in-Ok g c = record {
  sweeps = all_swept (g.B.Board.sight c.args.board.now) (g.B.Board.sight c.prepare.new.board) (g.B.Board.sight c.sweep.new.board) c.args.holder.now c.in_ok-planned.planned
      (subst IsRecord c.holder.view_is c.holder.invariant) c.in_ok-planned.ensures.reads c.in-Ok.ensures.steps;
}

pub returns : goal.returns
returns g c = record {
  sweeps = broken_off (g.B.Board.sight c.args.board.now) (g.B.Board.sight c.prepare.new.board) (g.B.Board.sight c.sweep.new.board) c.args.holder.now c.in_ok-planned.planned
      (subst IsRecord c.holder.view_is c.holder.invariant) c.in_ok-planned.ensures.reads c.in-Err.part c.in-Err.ensures.steps;
}
