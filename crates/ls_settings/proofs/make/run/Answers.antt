use Rattle.std.proofs.Common.{◌≤◌, ℕ, subst}
use Rattle.std.proofs.lemmas.Result.{err_from_is_err_and}
use Rattle.ls_settings.proofs.RunningLemmas.{ready_told, not_run, ran, failed}
use Rattle.ls_settings.proofs.make.run.Goals as goal

pub returns-in_err-ready-clause-runs : goal.returns-in_err-ready-clause-runs
returns-in_err-ready-clause-runs g c = λ told.
    let p = err_from_is_err_and c.from_residual.result c.from_residual.ensures.1 in
    rw p.1 (not_run (g.B.Board.sight c.args.board.now) (g.B.Board.sight c.ready.new.self) _ _ c.ready.result c.ready.ensures c.args.plan.now p.0)

pub run_plan-requires : goal.run_plan-requires
run_plan-requires g c =
    let s = g.B.Board.sight c.ready.new.self in
    record {
      actions = subst (λ (n : ℕ). n ≤ s.actions) c.weight-actions.ensures.actions c.in_ok-ready.ensures.room.0;
      bytes = subst (λ (n : ℕ). n ≤ s.bytes) c.weight-actions.ensures.bytes c.in_ok-ready.ensures.room.1;
      sound = c.requires.makes.sound s.slots;
      applies = λ told. c.requires.makes.applies s.world;
    }

pub returns-in-Ok-clause-runs : goal.returns-in-Ok-clause-runs
returns-in-Ok-clause-runs g c = λ told.
    let old = g.B.Board.sight c.args.board.now in
    let ready = g.B.Board.sight c.ready.new.self in
    ran old ready _ _ c.ready.result c.ready.ensures c.args.plan.now (g.B.Board.sight c.run_plan.new.board) c.requires.makes
    (c.run_plan.ensures.crash (ready_told old ready _ _ c.ready.result c.ready.ensures c.args.plan.now told)) tt told c.in-Ok.ensures.done

pub returns-in-Err-clause-runs : goal.returns-in-Err-clause-runs
returns-in-Err-clause-runs g c = λ told.
    let old = g.B.Board.sight c.args.board.now in
    let ready = g.B.Board.sight c.ready.new.self in
    failed old ready _ _ c.ready.result c.ready.ensures c.args.plan.now (g.B.Board.sight c.run_plan.new.board) c.requires.makes
    (c.run_plan.ensures.crash (ready_told old ready _ _ c.ready.result c.ready.ensures c.args.plan.now told)) _ told c.in-Err.fault.at c.in-Err.fault.part c.in-Err.ensures.failed
