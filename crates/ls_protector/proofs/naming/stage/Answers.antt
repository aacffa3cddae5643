use Rattle.std.proofs.Common.{List, ap, subst}
use Rattle.ls_board.specs.declared.action.Action.{Action}
use Rattle.ls_board.specs.Runs.{FailedIn}
use Rattle.ls_board.proofs.FailLemmas.{failed_at}
use Rattle.ls_protector.specs.Steps.{Drafted}
use Rattle.ls_protector.proofs.StageLemmas.{staged_but, staged_stands, broken_but, broken_stands}
use Rattle.ls_protector.proofs.naming.stage.Goals as goal

pub returns-in-Ok-clause-but : goal.returns-in-Ok-clause-but
returns-in-Ok-clause-but g c =
    staged_but (g.B.Board.sight c.args.board.now) (g.B.Board.sight c.run_plan.new.board) c.draft.inside.parts c.draft.inside.plan c.args.draft c.draft.view_is c.draft.invariant c.run_plan.ensures.crash c.in-Ok.ensures.done

pub returns-in-Ok-clause-stands : goal.returns-in-Ok-clause-stands
returns-in-Ok-clause-stands g c =
    staged_stands (g.B.Board.sight c.args.board.now) (g.B.Board.sight c.run_plan.new.board) c.draft.inside.parts c.draft.inside.plan c.args.draft c.draft.view_is c.draft.invariant c.run_plan.ensures.crash c.in-Ok.ensures.done c.requires.clear

pub returns-clause-but : goal.returns-clause-but
returns-clause-but g c =
    broken_but (g.B.Board.sight c.args.board.now) (g.B.Board.sight c.run_plan.new.board) c.draft.inside.parts c.draft.inside.plan c.args.draft c.draft.view_is c.draft.invariant c.run_plan.ensures.crash
    c.in-Err.fault.at c.in-Err.fault.part c.in-Err.ensures.failed

pub returns-clause-stands : goal.returns-clause-stands
returns-clause-stands g c =
    broken_stands (g.B.Board.sight c.args.board.now) (g.B.Board.sight c.run_plan.new.board) c.draft.inside.parts c.draft.inside.plan c.args.draft c.draft.view_is c.draft.invariant c.run_plan.ensures.crash
    c.in-Err.fault.at c.in-Err.fault.part c.in-Err.ensures.failed c.requires.clear

pub returns-clause-failed : goal.returns-clause-failed
returns-clause-failed g c =
    let s0 = g.B.Board.sight c.args.board.now in
    let s1 = g.B.Board.sight c.run_plan.new.board in
    let fault = c.in-Err.fault in
    subst (λ (l : List Action). FailedIn s0 l fault.part s1) (ap (λ (d : Drafted). d.plan) c.draft.view_is) (failed_at s0 s1 c.draft.inside.plan fault.at fault.part c.in-Err.ensures.failed)
