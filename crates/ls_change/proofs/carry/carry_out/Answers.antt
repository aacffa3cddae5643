use Rattle.std.proofs.Common.{◌++◌, Err}
use Rattle.std.proofs.lemmas.Result.{err_from_is_err_and}
use Rattle.ls_settings.specs.declared.plan.Committed.{Committed}
use Rattle.ls_board.proofs.FailLemmas.{failed_at, failed_front, failed_behind}
use Rattle.ls_board.proofs.CallLemmas.{did_both, keeps_behind, failed_keeps}
use Rattle.ls_change.proofs.SightLemmas.{first_rest, first_cut, first_crash, commit_ready, second_rest, second_cut, second_crash, can_finish, third_rest, third_cut, third_crash, did_all, ends_rest, ends_durable, ends_ready}
use Rattle.ls_change.proofs.carry.carry_out.Goals as goal

pub returns-in-Err-clause-keeps : goal.returns-in-Err-clause-keeps
returns-in-Err-clause-keeps g c =
    failed_keeps {T = Committed} (g.B.Board.sight c.args.board.now) (g.B.Board.sight c.stage.new.board) _ _ c.in-Err.fault.part c.in-Err.ensures.failed

pub returns-in-Err-clause-failed : goal.returns-in-Err-clause-failed
returns-in-Err-clause-failed g c =
    let s0 = g.B.Board.sight c.args.board.now in
    let s1 = g.B.Board.sight c.stage.new.board in
    let k = c.args.work in
    failed_front s0 s1 k.before (k.commit.actions ++ k.after) c.in-Err.fault.part (failed_at s0 s1 k.before c.in-Err.fault.at c.in-Err.fault.part c.in-Err.ensures.failed)

pub returns-in-Err-clause-crash : goal.returns-in-Err-clause-crash
returns-in-Err-clause-crash g c = λ told old new was ready.
    first_crash (g.B.Board.sight c.args.board.now) c.args.settings.now c.args.work c.requires.quiet (g.B.Board.sight c.stage.new.board) c.stage.ensures.crash told old new was

pub returns-in-Err-clause-rest : goal.returns-in-Err-clause-rest
returns-in-Err-clause-rest g c =
    first_rest (g.B.Board.sight c.args.board.now) c.args.settings.now c.args.work c.requires.quiet (g.B.Board.sight c.stage.new.board) c.in-Err.fault.at c.in-Err.fault.part c.in-Err.ensures.failed

pub returns-in-Err-clause-cut : goal.returns-in-Err-clause-cut
returns-in-Err-clause-cut g c =
    first_cut (g.B.Board.sight c.args.board.now) c.args.settings.now c.args.work c.requires.quiet (g.B.Board.sight c.stage.new.board) c.stage.ensures.crash

pub commit-requires-clause-ready : goal.commit-requires-clause-ready
commit-requires-clause-ready g c =
    commit_ready (g.B.Board.sight c.args.board.now) c.args.settings.now c.args.work c.requires.quiet (g.B.Board.sight c.stage.new.board) c.stage.ensures.crash c.in_default.ensures.done

pub returns-in_err-done-clause-keeps : goal.returns-in_err-done-clause-keeps
returns-in_err-done-clause-keeps g c =
    let p = err_from_is_err_and c.from_residual.result c.from_residual.ensures.1 in
    rw (p.1, p.2)
    (keeps_behind {T = Committed} (g.B.Board.sight c.args.board.now) (g.B.Board.sight c.stage.new.board) (g.B.Board.sight c.commit.new.board) c.args.work.before (Err c.in_err-done.field-0.0)
    c.in_default.ensures.done c.in_err-done.ensures.keeps)

pub returns-in_err-done-clause-failed : goal.returns-in_err-done-clause-failed
returns-in_err-done-clause-failed g c =
    let p = err_from_is_err_and c.from_residual.result c.from_residual.ensures.1 in
    let s0 = g.B.Board.sight c.args.board.now in
    let s1 = g.B.Board.sight c.stage.new.board in
    let s2 = g.B.Board.sight c.commit.new.board in
    let k = c.args.work in
    rw (p.1, p.2)
    (failed_behind s0 s1 s2 k.before (k.commit.actions ++ k.after) c.in_err-done.field-0.0 c.in_default.ensures.done
    (failed_front s1 s2 k.commit.actions k.after c.in_err-done.field-0.0 c.in_err-done.ensures.failed))

pub returns-in_err-done-clause-crash : goal.returns-in_err-done-clause-crash
returns-in_err-done-clause-crash g c =
    second_crash (g.B.Board.sight c.args.board.now) c.args.settings.now c.args.work c.requires.quiet (g.B.Board.sight c.stage.new.board) c.stage.ensures.crash c.in_default.ensures.done
    (g.B.Board.sight c.commit.new.board) c.commit.ensures.crash

pub returns-in_err-done-clause-rest : goal.returns-in_err-done-clause-rest
returns-in_err-done-clause-rest g c =
    second_rest (g.B.Board.sight c.args.board.now) c.args.settings.now c.args.work c.requires.quiet (g.B.Board.sight c.stage.new.board) c.stage.ensures.crash c.in_default.ensures.done
    (g.B.Board.sight c.commit.new.board) c.commit.ensures.but

pub returns-in_err-done-clause-cut : goal.returns-in_err-done-clause-cut
returns-in_err-done-clause-cut g c =
    second_cut (g.B.Board.sight c.args.board.now) c.args.settings.now c.args.work c.requires.quiet (g.B.Board.sight c.stage.new.board) c.stage.ensures.crash c.in_default.ensures.done
    (g.B.Board.sight c.commit.new.board) c.commit.ensures.crash

pub run_plan-requires : goal.run_plan-requires
run_plan-requires g c =
    can_finish (g.B.Board.sight c.args.board.now) c.args.settings.now c.args.work c.requires.quiet (g.B.Board.sight c.stage.new.board) c.stage.ensures.crash c.in_default.ensures.done
    (g.B.Board.sight c.commit.new.board) c.commit.ensures.crash c.in_ok-done.ensures.did c.in_ok-done.ensures.ready c.commit.ensures.but c.requires.room

pub returns-in-Ok-clause-did : goal.returns-in-Ok-clause-did
returns-in-Ok-clause-did g c =
    did_all (g.B.Board.sight c.args.board.now) c.args.settings.now c.args.work c.requires.quiet (g.B.Board.sight c.stage.new.board) c.stage.ensures.crash c.in_default.ensures.done
    (g.B.Board.sight c.commit.new.board) c.commit.ensures.crash c.in_ok-done.ensures.did c.in_ok-done.ensures.ready c.commit.ensures.but
    (g.B.Board.sight c.run_plan.new.board) c.in-Ok.ensures.done

pub returns-in-Ok-clause-rest : goal.returns-in-Ok-clause-rest
returns-in-Ok-clause-rest g c =
    ends_rest (g.B.Board.sight c.args.board.now) c.args.settings.now c.args.work c.requires.quiet (g.B.Board.sight c.stage.new.board) c.stage.ensures.crash c.in_default.ensures.done
    (g.B.Board.sight c.commit.new.board) c.commit.ensures.crash c.in_ok-done.ensures.did c.in_ok-done.ensures.ready c.commit.ensures.but
    (g.B.Board.sight c.run_plan.new.board) c.in-Ok.ensures.done

pub returns-in-Ok-clause-cut : goal.returns-in-Ok-clause-cut
returns-in-Ok-clause-cut g c =
    third_cut (g.B.Board.sight c.args.board.now) c.args.settings.now c.args.work c.requires.quiet (g.B.Board.sight c.stage.new.board) c.stage.ensures.crash c.in_default.ensures.done
    (g.B.Board.sight c.commit.new.board) c.commit.ensures.crash c.in_ok-done.ensures.did c.in_ok-done.ensures.ready c.commit.ensures.but
    (g.B.Board.sight c.run_plan.new.board) c.run_plan.ensures.crash

pub returns-in-Ok-clause-crash : goal.returns-in-Ok-clause-crash
returns-in-Ok-clause-crash g c =
    third_crash (g.B.Board.sight c.args.board.now) c.args.settings.now c.args.work c.requires.quiet (g.B.Board.sight c.stage.new.board) c.stage.ensures.crash c.in_default.ensures.done
    (g.B.Board.sight c.commit.new.board) c.commit.ensures.crash c.in_ok-done.ensures.did c.in_ok-done.ensures.ready c.commit.ensures.but
    (g.B.Board.sight c.run_plan.new.board) c.run_plan.ensures.crash

pub returns-in-Ok-clause-done : goal.returns-in-Ok-clause-done
returns-in-Ok-clause-done g c =
    ends_durable (g.B.Board.sight c.args.board.now) c.args.settings.now c.args.work c.requires.quiet (g.B.Board.sight c.stage.new.board) c.stage.ensures.crash c.in_default.ensures.done
    (g.B.Board.sight c.commit.new.board) c.commit.ensures.crash c.in_ok-done.ensures.did c.in_ok-done.ensures.ready c.commit.ensures.but
    (g.B.Board.sight c.run_plan.new.board) c.in-Ok.ensures.done

pub returns-in-Ok-clause-ready : goal.returns-in-Ok-clause-ready
returns-in-Ok-clause-ready g c =
    ends_ready (g.B.Board.sight c.args.board.now) c.args.settings.now c.args.work c.requires.quiet (g.B.Board.sight c.stage.new.board) c.stage.ensures.crash c.in_default.ensures.done
    (g.B.Board.sight c.commit.new.board) c.commit.ensures.crash c.in_ok-done.ensures.did c.in_ok-done.ensures.ready c.commit.ensures.but
    (g.B.Board.sight c.run_plan.new.board) c.in-Ok.ensures.done

pub returns-clause-keeps : goal.returns-clause-keeps
returns-clause-keeps g c =
    keeps_behind {T = Committed} (g.B.Board.sight c.args.board.now) (g.B.Board.sight c.commit.new.board) (g.B.Board.sight c.run_plan.new.board) (c.args.work.before ++ c.args.work.commit.actions) (Err c.in-Err-run_plan.fault.part)
    (did_both (g.B.Board.sight c.args.board.now) (g.B.Board.sight c.stage.new.board) (g.B.Board.sight c.commit.new.board) c.args.work.before c.args.work.commit.actions c.in_default.ensures.done c.in_ok-done.ensures.did)
    (failed_keeps {T = Committed} (g.B.Board.sight c.commit.new.board) (g.B.Board.sight c.run_plan.new.board) _ _ c.in-Err-run_plan.fault.part c.in-Err-run_plan.ensures.failed)

pub returns-clause-failed : goal.returns-clause-failed
returns-clause-failed g c =
    let s0 = g.B.Board.sight c.args.board.now in
    let s1 = g.B.Board.sight c.stage.new.board in
    let s2 = g.B.Board.sight c.commit.new.board in
    let s3 = g.B.Board.sight c.run_plan.new.board in
    let k = c.args.work in
    let part = c.in-Err-run_plan.fault.part in
    failed_behind s0 s1 s3 k.before (k.commit.actions ++ k.after) part c.in_default.ensures.done
    (failed_behind s1 s2 s3 k.commit.actions k.after part c.in_ok-done.ensures.did
    (failed_at s2 s3 k.after c.in-Err-run_plan.fault.at part c.in-Err-run_plan.ensures.failed))

pub returns-clause-rest : goal.returns-clause-rest
returns-clause-rest g c =
    third_rest (g.B.Board.sight c.args.board.now) c.args.settings.now c.args.work c.requires.quiet (g.B.Board.sight c.stage.new.board) c.stage.ensures.crash c.in_default.ensures.done
    (g.B.Board.sight c.commit.new.board) c.commit.ensures.crash c.in_ok-done.ensures.did c.in_ok-done.ensures.ready c.commit.ensures.but
    (g.B.Board.sight c.run_plan.new.board) c.in-Err-run_plan.fault.at c.in-Err-run_plan.fault.part c.in-Err-run_plan.ensures.failed

pub returns-clause-cut : goal.returns-clause-cut
returns-clause-cut g c =
    third_cut (g.B.Board.sight c.args.board.now) c.args.settings.now c.args.work c.requires.quiet (g.B.Board.sight c.stage.new.board) c.stage.ensures.crash c.in_default.ensures.done
    (g.B.Board.sight c.commit.new.board) c.commit.ensures.crash c.in_ok-done.ensures.did c.in_ok-done.ensures.ready c.commit.ensures.but
    (g.B.Board.sight c.run_plan.new.board) c.run_plan.ensures.crash

pub returns-clause-crash : goal.returns-clause-crash
returns-clause-crash g c =
    third_crash (g.B.Board.sight c.args.board.now) c.args.settings.now c.args.work c.requires.quiet (g.B.Board.sight c.stage.new.board) c.stage.ensures.crash c.in_default.ensures.done
    (g.B.Board.sight c.commit.new.board) c.commit.ensures.crash c.in_ok-done.ensures.did c.in_ok-done.ensures.ready c.commit.ensures.but
    (g.B.Board.sight c.run_plan.new.board) c.run_plan.ensures.crash
