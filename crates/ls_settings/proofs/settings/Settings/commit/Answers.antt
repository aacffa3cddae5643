use Rattle.std.proofs.Common.{take, slice_get, ◌≡◌, ◌≤◌, List, length, sum_by, sym, ap, subst}
use Rattle.ls_board.specs.declared.action.Action.{Action}
use Rattle.ls_board.specs.Effect.{weight_of}
use Rattle.ls_board.specs.Runs.{AllSound, FailedIn}
use Rattle.ls_board.proofs.FailLemmas.{failed_at}
use Rattle.ls_board.specs.Reach.{AllTouchOnly}
use Rattle.ls_settings.specs.Commits.{Prepared}
use Rattle.ls_settings.proofs.CommitLemmas.{commit_sound, plan_applies, plan_crash, plan_ready, plan_held, plan_only, commit_touches, failed_keeps}
use Rattle.ls_settings.specs.Loaded.{settings_reach}
use Rattle.ls_settings.proofs.RunningLemmas.{failed_same}
use Rattle.ls_settings.proofs.settings.Settings.commit.Goals as goal

pub run_plan-requires : goal.run_plan-requires
run_plan-requires g c =
    let s = g.B.Board.sight c.args.board.now in
    let plan = c.args.plan in
    let is : c.plan.inside.plan ≡ plan.actions = ap (λ (p : Prepared). p.actions) c.plan.view_is in
    record {
      actions = subst (λ (l : List Action). length l ≤ s.actions) (sym is) c.requires.actions;
      bytes = subst (λ (l : List Action). sum_by weight_of l ≤ s.bytes) (sym is) c.requires.bytes;
      sound = subst (AllSound s.slots) (sym is) (commit_sound c.args.self.now plan.to plan.actions c.requires.prepared s.slots);
      applies = λ told. plan_applies s s c.args.self.now plan.to plan.actions c.plan.inside.plan is c.requires.prepared (c.requires.ready told);
    }

pub returns-in-Ok-clause-crash : goal.returns-in-Ok-clause-crash
returns-in-Ok-clause-crash g c = λ told.
    plan_crash (g.B.Board.sight c.args.board.now) (g.B.Board.sight c.run_plan.new.board) c.args.self.now c.args.plan.to c.args.plan.actions c.plan.inside.plan
    (ap (λ (p : Prepared). p.actions) c.plan.view_is) c.requires.prepared (c.requires.ready told) (c.run_plan.ensures.crash told)

pub returns-in-Err-clause-crash : goal.returns-in-Err-clause-crash
returns-in-Err-clause-crash g c = λ told.
    plan_crash (g.B.Board.sight c.args.board.now) (g.B.Board.sight c.run_plan.new.board) c.args.self.now c.args.plan.to c.args.plan.actions c.plan.inside.plan
    (ap (λ (p : Prepared). p.actions) c.plan.view_is) c.requires.prepared (c.requires.ready told) (c.run_plan.ensures.crash told)

pub returns-in-Ok-clause-ready : goal.returns-in-Ok-clause-ready
returns-in-Ok-clause-ready g c = λ told.
    plan_ready (g.B.Board.sight c.args.board.now) (g.B.Board.sight c.run_plan.new.board) c.args.self.now c.args.plan.to c.args.plan.actions c.plan.inside.plan
    (ap (λ (p : Prepared). p.actions) c.plan.view_is) c.requires.prepared (c.requires.ready told) (c.in-Ok.ensures.done.world told)

pub returns-in-Ok-clause-held : goal.returns-in-Ok-clause-held
returns-in-Ok-clause-held g c = λ told.
    plan_held (g.B.Board.sight c.args.board.now) (g.B.Board.sight c.run_plan.new.board) c.args.self.now c.args.plan.to c.args.plan.actions c.plan.inside.plan
    (ap (λ (p : Prepared). p.actions) c.plan.view_is) c.requires.prepared (c.requires.ready told) (c.in-Ok.ensures.done.world told)

pub returns-in-Ok-clause-but : goal.returns-in-Ok-clause-but
returns-in-Ok-clause-but g c = λ told.
    plan_only (g.B.Board.sight c.args.board.now) (g.B.Board.sight c.run_plan.new.board) c.args.self.now c.args.plan.to c.args.plan.actions c.plan.inside.plan
    (ap (λ (p : Prepared). p.actions) c.plan.view_is) c.requires.prepared (c.requires.ready told) (c.in-Ok.ensures.done.world told)

pub returns-in-Err-clause-keeps : goal.returns-in-Err-clause-keeps
returns-in-Err-clause-keeps g c =
    failed_keeps (g.B.Board.sight c.args.board.now) (g.B.Board.sight c.run_plan.new.board) (take c.in-Err.fault.at c.plan.inside.plan)
    (slice_get c.plan.inside.plan c.in-Err.fault.at) c.in-Err.fault.part c.in-Err.ensures.failed

pub returns-in-Err-clause-but : goal.returns-in-Err-clause-but
returns-in-Err-clause-but g c =
    let is : c.plan.inside.plan ≡ c.args.plan.actions = ap (λ (p : Prepared). p.actions) c.plan.view_is in
    failed_same settings_reach (g.B.Board.sight c.args.board.now) (g.B.Board.sight c.run_plan.new.board) c.plan.inside.plan
    (subst (AllTouchOnly settings_reach) (sym is) (commit_touches c.args.self.now c.args.plan.to c.args.plan.actions c.requires.prepared))
    c.in-Err.fault.at c.in-Err.fault.part c.in-Err.ensures.failed

pub returns-in-Err-clause-failed : goal.returns-in-Err-clause-failed
returns-in-Err-clause-failed g c =
    let is : c.plan.inside.plan ≡ c.args.plan.actions = ap (λ (p : Prepared). p.actions) c.plan.view_is in
    subst (λ (l : List Action). FailedIn (g.B.Board.sight c.args.board.now) l c.in-Err.fault.part (g.B.Board.sight c.run_plan.new.board)) is
    (failed_at (g.B.Board.sight c.args.board.now) (g.B.Board.sight c.run_plan.new.board) c.plan.inside.plan c.in-Err.fault.at c.in-Err.fault.part c.in-Err.ensures.failed)
