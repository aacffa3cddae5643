use Rattle.std.proofs.Common.{arith, Bool}
use Rattle.ls_tidying.proofs.BehindLemmas.{tidies_then}
use Rattle.ls_tidying.proofs.IdLemmas.{is_left, still_gone}
use Rattle.ls_tidying.proofs.by_id.+clear_at.Goals as goal

pub clear_at-requires : goal.clear_at-requires
clear_at-requires g t c = λ κs le.
    let fewer = c.in-Ok-false.ensures.tidies.fewer in (
      omega (arith, fewer, c.decreases),
      (le, (c.in-Ok-false.ensures.tidies.only.can, (is_left c.args.x.now.retired.items c.step_at.new.x.retired.items c.args.i c.in-Ok-false.field-0 c.in-Ok-false.field-0-test c.in-Ok-false.ensures.tidies.gone).0)),
    )

pub returns-in-Ok-false-clause-only : goal.returns-in-Ok-false-clause-only
returns-in-Ok-false-clause-only g t c =
    tidies_then (g.B.Board.sight c.args.board.now) (g.B.Board.sight c.step_at.new.board) (g.B.Board.sight c.clear_at.new.board) {S = Bool} c.args.x.now c.step_at.new.x c.clear_at.new.x c.in-Ok-false.field-0
    c.in-Ok-false.ensures.tidies.only {T = Unit {0}} c.clear_at.result c.clear_at.ensures.only

pub returns-in-Ok-false-clause-left : goal.returns-in-Ok-false-clause-left
returns-in-Ok-false-clause-left g t c =
    still_gone c.clear_at.result c.clear_at.new.x.retired.items _ _ (is_left c.args.x.now.retired.items c.step_at.new.x.retired.items c.args.i c.in-Ok-false.field-0 c.in-Ok-false.field-0-test c.in-Ok-false.ensures.tidies.gone).1 c.clear_at.ensures.left
