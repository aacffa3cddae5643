use Rattle.std.proofs.Common.{◌≡◌, List, [], ◌++◌, Ok, Err, sym, ◌∙◌, ap, subst}
use Rattle.ls_board.specs.Runs.{CanRun}
use Rattle.ls_board.proofs.CallLemmas.{can_first, can_second, can_rest}
use Rattle.ls_formats.specs.declared.parts.Parts.{Parts}
use Rattle.ls_exchange.specs.Exchanges.{new_parts, staging_of, settling_of}
use Rattle.ls_exchange.specs.Turns.{Runs}
use Rattle.ls_exchange.proofs.TurnLemmas.{runs_front, runs_behind}
use Rattle.ls_exchange.proofs.staging.build_all.Goals as goal

-- behind an empty list
staged_are : (held new all : List Parts) → held ≡ [] → new ≡ held ++ all → new ≡ all
staged_are held new all none put = put ∙ ap (λ (l : List Parts). l ++ all) none

pub stage_all-requires-clause-run : goal.stage_all-requires-clause-run
stage_all-requires-clause-run g c =
    let s0 = g.B.Board.sight c.args.board.now in
    can_first s0 s0 (staging_of c.args.drafts.items) c.args.others.now (settling_of (new_parts c.args.drafts.items)) c.requires.run

pub returns-in-Err-clause-runs : goal.returns-in-Err-clause-runs
returns-in-Err-clause-runs g c =
    runs_front (g.B.Board.sight c.args.board.now) (g.B.Board.sight c.stage_all.new.board) (staging_of c.args.drafts.items) (c.args.others.now ++ settling_of (new_parts c.args.drafts.items))
    c.in-Err.part c.in-Err.ensures.runs

pub run_others-requires-clause-run : goal.run_others-requires-clause-run
run_others-requires-clause-run g c =
    can_second (g.B.Board.sight c.args.board.now) (g.B.Board.sight c.stage_all.new.board) (staging_of c.args.drafts.items) c.args.others.now (settling_of (new_parts c.args.drafts.items))
    c.requires.run c.in_default.ensures.runs.did

pub returns-in-Err-run_others-clause-runs : goal.returns-in-Err-run_others-clause-runs
returns-in-Err-run_others-clause-runs g c =
    let settling = settling_of (new_parts c.args.drafts.items) in
    let s1 = g.B.Board.sight c.stage_all.new.board in
    let s2 = g.B.Board.sight c.run_others.new.board in
    runs_behind (g.B.Board.sight c.args.board.now) s1 s2 (staging_of c.args.drafts.items) (c.args.others.now ++ settling) (Err c.in-Err-run_others.part) c.in_default.ensures.runs
    (runs_front s1 s2 c.args.others.now settling c.in-Err-run_others.part c.in-Err-run_others.ensures.runs)

pub settle_all-requires-clause-run : goal.settle_all-requires-clause-run
settle_all-requires-clause-run g c =
    let all = new_parts c.args.drafts.items in
    let s1 = g.B.Board.sight c.stage_all.new.board in
    let s2 = g.B.Board.sight c.run_others.new.board in
    let is = staged_are c.args.staged.items c.stage_all.new.staged.items all c.requires.none.0 c.in_default.ensures.put in
    subst (λ (l : List Parts). CanRun s2 (settling_of l)) (sym is)
    (can_rest s1 s2 c.args.others.now (settling_of all)
    (can_rest (g.B.Board.sight c.args.board.now) s1 (staging_of c.args.drafts.items) (c.args.others.now ++ settling_of all) c.requires.run c.in_default.ensures.runs.did)
    c.in_default-run_others.ensures.runs.did)

pub returns-in-Ok-clause-runs : goal.returns-in-Ok-clause-runs
returns-in-Ok-clause-runs g c =
    let all = new_parts c.args.drafts.items in
    let s1 = g.B.Board.sight c.stage_all.new.board in
    let s2 = g.B.Board.sight c.run_others.new.board in
    let s3 = g.B.Board.sight c.settle_all.new.board in
    let is = staged_are c.args.staged.items c.stage_all.new.staged.items all c.requires.none.0 c.in_default.ensures.put in
    runs_behind (g.B.Board.sight c.args.board.now) s1 s3 (staging_of c.args.drafts.items) (c.args.others.now ++ settling_of all) (Ok tt) c.in_default.ensures.runs
    (runs_behind s1 s2 s3 c.args.others.now (settling_of all) (Ok tt) c.in_default-run_others.ensures.runs
    (subst (λ (l : List Parts). Runs {T = Unit {0}} s2 (settling_of l) (Ok tt) s3) is c.in-Ok.ensures.runs))

pub returns-in-Err-settle_all-clause-runs : goal.returns-in-Err-settle_all-clause-runs
returns-in-Err-settle_all-clause-runs g c =
    let all = new_parts c.args.drafts.items in
    let s1 = g.B.Board.sight c.stage_all.new.board in
    let s2 = g.B.Board.sight c.run_others.new.board in
    let s3 = g.B.Board.sight c.settle_all.new.board in
    let part = c.in-Err-settle_all.part in
    let is = staged_are c.args.staged.items c.stage_all.new.staged.items all c.requires.none.0 c.in_default.ensures.put in
    runs_behind (g.B.Board.sight c.args.board.now) s1 s3 (staging_of c.args.drafts.items) (c.args.others.now ++ settling_of all) (Err part) c.in_default.ensures.runs
    (runs_behind s1 s2 s3 c.args.others.now (settling_of all) (Err part) c.in_default-run_others.ensures.runs
    (subst (λ (l : List Parts). Runs {T = Unit {0}} s2 (settling_of l) (Err part) s3) is c.in-Err-settle_all.ensures.runs))
