use Rattle.std.proofs.Common.{◌++◌, ◌∷◌, []}
use Rattle.ls_board.specs.declared.action.Action.TheVariants.{Sync}
use Rattle.ls_board.proofs.CallLemmas.{can_first, can_second, did_both, front_crash, second_crash, third_crash}
use Rattle.ls_board.proofs.FailLemmas.{failed_at, failed_front, failed_behind, failed_in_keeps}
use Rattle.ls_protector.proofs.building.build_protector.Goals as goal

pub stage-requires-clause-run : goal.stage-requires-clause-run
stage-requires-clause-run g c = let s0 = g.B.Board.sight c.args.board.now in can_first s0 s0 c.args.draft.plan c.args.others.now (Sync ∷ []) c.requires.run

pub returns-in-Err-clause-crash : goal.returns-in-Err-clause-crash
returns-in-Err-clause-crash g c = front_crash (g.B.Board.sight c.args.board.now) (g.B.Board.sight c.stage.new.board) c.args.draft.plan (c.args.others.now ++ Sync ∷ []) c.stage.ensures.crash

pub run_plan-requires : goal.run_plan-requires
run_plan-requires g c = can_second (g.B.Board.sight c.args.board.now) (g.B.Board.sight c.stage.new.board) c.args.draft.plan c.args.others.now (Sync ∷ []) c.requires.run c.in-Ok.ensures.did

pub returns-in-Err-run_plan-clause-crash : goal.returns-in-Err-run_plan-clause-crash
returns-in-Err-run_plan-clause-crash g c =
    second_crash (g.B.Board.sight c.args.board.now) (g.B.Board.sight c.stage.new.board) (g.B.Board.sight c.run_plan.new.board) c.args.draft.plan c.args.others.now (Sync ∷ []) c.in-Ok.ensures.did c.stage.ensures.crash c.run_plan.ensures.crash

pub returns-in-Ok-settle-clause-did : goal.returns-in-Ok-settle-clause-did
returns-in-Ok-settle-clause-did g c =
    did_both (g.B.Board.sight c.args.board.now) (g.B.Board.sight c.stage.new.board) (g.B.Board.sight c.settle.new.board) c.args.draft.plan (c.args.others.now ++ Sync ∷ []) c.in-Ok.ensures.did
    (did_both (g.B.Board.sight c.stage.new.board) (g.B.Board.sight c.run_plan.new.board) (g.B.Board.sight c.settle.new.board) c.args.others.now (Sync ∷ []) c.in_default.ensures.done c.in-Ok-settle.ensures.did)

pub returns-in-Ok-settle-clause-crash : goal.returns-in-Ok-settle-clause-crash
returns-in-Ok-settle-clause-crash g c =
    third_crash (g.B.Board.sight c.args.board.now) (g.B.Board.sight c.stage.new.board) (g.B.Board.sight c.run_plan.new.board) c.args.draft.plan c.args.others.now (Sync ∷ []) c.in-Ok.ensures.did c.stage.ensures.crash
    (g.B.Board.sight c.settle.new.board) c.in_default.ensures.done c.run_plan.ensures.crash c.settle.ensures.crash

pub returns-in-Err-settle-clause-crash : goal.returns-in-Err-settle-clause-crash
returns-in-Err-settle-clause-crash g c =
    third_crash (g.B.Board.sight c.args.board.now) (g.B.Board.sight c.stage.new.board) (g.B.Board.sight c.run_plan.new.board) c.args.draft.plan c.args.others.now (Sync ∷ []) c.in-Ok.ensures.did c.stage.ensures.crash
    (g.B.Board.sight c.settle.new.board) c.in_default.ensures.done c.run_plan.ensures.crash c.settle.ensures.crash

pub returns-in-Err-clause-failed : goal.returns-in-Err-clause-failed
returns-in-Err-clause-failed g c =
    failed_front (g.B.Board.sight c.args.board.now) (g.B.Board.sight c.stage.new.board) c.args.draft.plan (c.args.others.now ++ Sync ∷ []) c.in-Err.part c.in-Err.ensures.failed

pub returns-in-Err-run_plan-clause-failed : goal.returns-in-Err-run_plan-clause-failed
returns-in-Err-run_plan-clause-failed g c =
    let s1 = g.B.Board.sight c.stage.new.board in
    let s2 = g.B.Board.sight c.run_plan.new.board in
    let fault = c.in-Err-run_plan.fault in
    failed_behind (g.B.Board.sight c.args.board.now) s1 s2 c.args.draft.plan (c.args.others.now ++ Sync ∷ []) fault.part c.in-Ok.ensures.did
    (failed_front s1 s2 c.args.others.now (Sync ∷ []) fault.part (failed_at s1 s2 c.args.others.now fault.at fault.part c.in-Err-run_plan.ensures.failed))

pub returns-in-Err-settle-clause-failed : goal.returns-in-Err-settle-clause-failed
returns-in-Err-settle-clause-failed g c =
    let s1 = g.B.Board.sight c.stage.new.board in
    let s2 = g.B.Board.sight c.run_plan.new.board in
    let s3 = g.B.Board.sight c.settle.new.board in
    let part = c.in-Err-settle.part in
    failed_behind (g.B.Board.sight c.args.board.now) s1 s3 c.args.draft.plan (c.args.others.now ++ Sync ∷ []) part c.in-Ok.ensures.did
    (failed_behind s1 s2 s3 c.args.others.now (Sync ∷ []) part c.in_default.ensures.done c.in-Err-settle.ensures.failed)

pub returns-in-Err-settle-clause-keeps : goal.returns-in-Err-settle-clause-keeps
returns-in-Err-settle-clause-keeps g c =
    failed_in_keeps (g.B.Board.sight c.args.board.now) (g.B.Board.sight c.settle.new.board) (c.args.draft.plan ++ (c.args.others.now ++ Sync ∷ [])) c.in-Err-settle.part
    (returns-in-Err-settle-clause-failed g c)
