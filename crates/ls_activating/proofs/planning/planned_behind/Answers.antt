use Rattle.std.proofs.Common.{◌≤◌, ℕ, sym, subst}
use Rattle.std.specs.Prelude.{Err}
use Rattle.ls_board.specs.declared.action.BoardFault.{BoardFault}
use Rattle.ls_drawing.specs.Passing.{Passes}
use Rattle.ls_activating.specs.declared.planned.Planned.{Planned}
use Rattle.ls_activating.specs.Planning.{IsPlan}
use Rattle.ls_activating.proofs.PlanLemmas.{failed_behind, lacked_behind, no_half, plan_from, planned_behind, version_is}
use Rattle.ls_activating.proofs.planning.planned_behind.Goals as goal

pub planned_with-requires-clause-version : goal.planned_with-requires-clause-version
planned_with-requires-clause-version g c = subst (λ (v : ℕ). (2 ≤ v) × (v ≤ 3)) (sym c.version-version.ensures.same) (version_is c.args.secret.now c.version-version.ensures.is_secret)

pub returns-in-Err : goal.returns-in-Err
returns-in-Err g c = record {
  passes = no_half _ c.args.row.now.user c.args.secret.now (g.B.Board.sight c.args.board.now) (g.B.Board.sight c.half.new.board) c.in-Err.fault c.in-Err.ensures.looks;
}

pub returns-in-Ok-planned_with : goal.returns-in-Ok-planned_with
returns-in-Ok-planned_with g c =
    let old = g.B.Board.sight c.args.board.now in
    let mid = g.B.Board.sight c.half.new.board in
    let new = g.B.Board.sight c.planned_with.new.board in
    let goes = c.in-Ok-planned_with.ensures.passes.goes in record {
      passes = planned_behind _ c.args.row.now.user c.args.secret.now old mid c.in-Ok.p0 c.in-Ok.ensures.looks new c.in-Ok-planned_with.plan c.in-Ok-planned_with.ensures.passes
          (plan_from c.args.x.now c.args.row.now c.args.secret.now c.args.tokens.now old mid new c.in-Ok.p0 c.in-Ok.ensures.looks goes c.in-Ok-planned_with.ensures.noise c.version-version.ensures.is_secret c.in-Ok-planned_with.ensures.bytes
          c.in-Ok-planned_with.plan
          (subst (λ (v : ℕ). IsPlan c.args.x.now c.args.row.now c.args.tokens.now v c.in-Ok.p0 c.in-Ok-planned_with.plan) c.version-version.ensures.same c.in-Ok-planned_with.ensures.plan));
    }

pub returns-in-Err-Failed : goal.returns-in-Err-Failed
returns-in-Err-Failed g c = record {
  passes = failed_behind _ c.args.row.now.user c.args.secret.now (g.B.Board.sight c.args.board.now) (g.B.Board.sight c.half.new.board) c.in-Ok.p0 c.in-Ok.ensures.looks
      (g.B.Board.sight c.planned_with.new.board) c.in-Err-Failed.part
      (subst (λ (f : BoardFault). Passes {T = Planned} (g.B.Board.sight c.half.new.board) (Err f) (g.B.Board.sight c.planned_with.new.board)) c.in-Err-Failed.field-0-is c.in-Err-Failed.ensures.passes);
}

pub returns-in-Err-Memory : goal.returns-in-Err-Memory
returns-in-Err-Memory g c = record {
  passes = lacked_behind _ c.args.row.now.user c.args.secret.now (g.B.Board.sight c.args.board.now) (g.B.Board.sight c.half.new.board) c.in-Ok.p0 c.in-Ok.ensures.looks
      (g.B.Board.sight c.planned_with.new.board)
      (subst (λ (f : BoardFault). Passes {T = Planned} (g.B.Board.sight c.half.new.board) (Err f) (g.B.Board.sight c.planned_with.new.board)) c.in-Err-Memory.field-0-is c.in-Err-Memory.ensures.passes);
}
