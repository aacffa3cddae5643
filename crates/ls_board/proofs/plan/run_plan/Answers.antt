use Rattle.std.proofs.Common.{◌+◌, ◌≡◌, ◌++◌, [], ◌∷◌, length, take, drop, sym, ◌∙◌, ap, subst, List}
use Rattle.ls_board.specs.declared.action.Action.{Action}
use Rattle.ls_board.specs.Runs.{CanRun, AllPlanned, Did, FailedAfter, LeavesOnly, PlanImage}
use Rattle.std.specs.Prelude.{Option, Result, Err, Some, slice_get, IsSomeAnd, IsTrue, refl}
use Rattle.std.proofs.lemmas.List.{take_more}
use Rattle.std.proofs.lemmas.Option.{slice_get_read}
use Rattle.ls_board.specs.declared.action.Answer.{Answer}
use Rattle.ls_board.specs.declared.action.BoardFault.{BoardFault}
use Rattle.ls_board.specs.Acts.{Acts}
use Rattle.ls_board.proofs.StepLemmas.{not_lacking}
use Rattle.ls_board.proofs.RunLemmas.{started, plan_start, plan_step, split, can_act, did_none, did_more, did_then_failed, planned_rest}
use Rattle.ls_board.proofs.plan.run_plan.Goals as goal

pub loop-at-init : goal.loop-at-init
loop-at-init g c = record { did = did_none _; crash = λ told. started _ _ (λ image left. plan_start _ _ image left) }

pub act-requires : goal.act-requires
act-requires g c =
    let is : c.deref-action-items.result.now ≡ c.args.plan.now = c.deref-action-items.ensures.value ∙ c.plan.view_is in
    let parts = split c.deref-action-items.result.now c.loop-at.at c.action-item.result c.loop-at-test.true c.action-item.is in
    let can = subst (λ (p : List Action). CanRun (g.B.Board.sight c.args.board.now) p) (sym is ∙ parts) c.requires in
    can_act _ _ _ _ _ can c.loop-at.invariant.did

pub unreachable-requires : goal.unreachable-requires
unreachable-requires g c =
    let parts = split c.deref-action-items.result.now c.loop-at.at c.action-item.result c.loop-at-test.true c.action-item.is in
    let all = subst AllPlanned (sym c.deref-action-items.ensures.value ∙ parts) c.plan.invariant.0 in
    not_lacking c.action-item.result (planned_rest (take c.loop-at.at c.deref-action-items.result.now) (c.action-item.result ∷ drop (c.loop-at.at + 1) c.deref-action-items.result.now) all).0
    (c.act.ensures.memory (c.in-Err-Memory.is ∙ ap Err c.in-Err-Memory.field-0-is)).0

pub loop-at-preserved : goal.loop-at-preserved
loop-at-preserved g c =
    let items = c.deref-action-items.result.now in
    let parts = split items c.loop-at.at c.action-item.result c.loop-at-test.true c.action-item.is in
    let all = subst AllPlanned (sym c.deref-action-items.ensures.value ∙ parts) c.plan.invariant.0 in
    let planned = (planned_rest (take c.loop-at.at items) (c.action-item.result ∷ drop (c.loop-at.at + 1) items) all).0 in
    let more : take (c.loop-at.at + 1) items ≡ take c.loop-at.at items ++ c.action-item.result ∷ [] = take_more items c.loop-at.at c.action-item.result c.loop-at-test.true ∙ ap (λ (a : Action). take c.loop-at.at items ++ a ∷ []) (sym c.action-item.is) in
    record {
      did = subst (λ (done : List Action). Did (g.B.Board.sight c.args.board.now) done (g.B.Board.sight c.act.new.self)) (sym more) (did_more _ _ _ _ _ c.in-Ok.field-0 _ planned c.loop-at.invariant.did c.in-Ok.ensures);
      crash = plan_step _ _ _ items c.loop-at.at c.action-item.result c.act.result _ c.loop-at-test.true c.action-item.is c.loop-at.invariant.did c.act.ensures c.loop-at.invariant.crash;
    }

pub returns-in-Err-Failed-clause-failed : goal.returns-in-Err-Failed-clause-failed
returns-in-Err-Failed-clause-failed g c =
    let items = c.deref-action-items.result.now in
    let is : items ≡ c.args.plan.now = c.deref-action-items.ensures.value ∙ c.plan.view_is in
    let found : slice_get items c.loop-at.at ≡ Some c.action-item.result = slice_get_read items (length items) c.loop-at.at c.action-item.result refl c.loop-at-test.true c.action-item.is in
    let acts = subst (λ (r : Result Answer BoardFault). Acts (g.B.Board.sight c.loop-at.board) c.action-item.result r c.act.new.out.items (g.B.Board.sight c.act.new.self)) (c.in-Err-Failed.is ∙ ap Err c.in-Err-Failed.field-0-is) c.act.ensures in
    let at = c.loop-at.at in
    let failed = did_then_failed _ _ _ _ _ c.in-Err-Failed.part _ c.loop-at.invariant.did acts in
    let there = subst (λ (o : Option Action). IsSomeAnd o (λ a. FailedAfter (g.B.Board.sight c.args.board.now) (take at items) a c.in-Err-Failed.part (g.B.Board.sight c.act.new.self))) (sym found) failed in
    rw c.in-Err-Failed.field-0-is
    (subst (λ (plan : List Action). IsSomeAnd (slice_get plan at) (λ a. FailedAfter (g.B.Board.sight c.args.board.now) (take at plan) a c.in-Err-Failed.part (g.B.Board.sight c.act.new.self))) is there)

pub returns-in-Err-Failed-clause-crash : goal.returns-in-Err-Failed-clause-crash
returns-in-Err-Failed-clause-crash g c =
    let items = c.deref-action-items.result.now in
    let is : items ≡ c.args.plan.now = c.deref-action-items.ensures.value ∙ c.plan.view_is in
    subst (λ (plan : List Action). IsTrue (g.B.Board.sight c.args.board.now).told → LeavesOnly (g.B.Board.sight c.args.board.now) (g.B.Board.sight c.act.new.self) (PlanImage (g.B.Board.sight c.args.board.now).world plan)) is
    (plan_step _ _ _ items c.loop-at.at c.action-item.result c.act.result _ c.loop-at-test.true c.action-item.is c.loop-at.invariant.did c.act.ensures c.loop-at.invariant.crash)

pub returns-in-Err-Failed-clause-complete : goal.returns-in-Err-Failed-clause-complete
returns-in-Err-Failed-clause-complete g c =
    let acts = subst (λ (r : Result Answer BoardFault). Acts (g.B.Board.sight c.loop-at.board) c.action-item.result r c.act.new.out.items (g.B.Board.sight c.act.new.self)) (c.in-Err-Failed.is ∙ ap Err c.in-Err-Failed.field-0-is) c.act.ensures in
    let failed = did_then_failed _ _ _ _ _ c.in-Err-Failed.part _ c.loop-at.invariant.did acts in
    λ none. absurd (none c.in-Err-Failed.part failed.rose)
