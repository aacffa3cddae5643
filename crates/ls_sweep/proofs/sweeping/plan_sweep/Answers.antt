use Rattle.std.proofs.Common.{ℕ, sym, subst}
use Rattle.std.proofs.lemmas.Result.{err_from_is_err_and}
use Rattle.ls_board.specs.Runs.{AllApply, AllSound}
use Rattle.ls_sweep.specs.Swept.{sweep_of}
use Rattle.ls_sweep.proofs.SweepingLemmas.{sweep_sound, sweep_applies}
use Rattle.ls_sweep.proofs.SweptLemmas.{none_left, planned_of, not_planned}
use Rattle.ls_sweep.proofs.sweeping.plan_sweep.Goals as goal

pub returns-in_err-left-clause-reads : goal.returns-in_err-left-clause-reads
returns-in_err-left-clause-reads g c =
    let p = err_from_is_err_and c.from_residual-in_err-left.result c.from_residual-in_err-left.ensures.1 in
    rw (p.1, p.2) (none_left (g.B.Board.sight c.args.board.now) (g.B.Board.sight c.named_slots.new.board) (g.B.Board.sight c.unnamed.new.board) c.args.holder.now c.in_ok-used.used c.as_slice.result.now
    c.in_ok-used.ensures.sees c.in_err-left.field-0.0 c.in_err-left.ensures.reads)

pub returns-in-Ok-clause-reads : goal.returns-in-Ok-clause-reads
returns-in-Ok-clause-reads g c =
    planned_of (g.B.Board.sight c.args.board.now) (g.B.Board.sight c.named_slots.new.board) (g.B.Board.sight c.unnamed.new.board) c.args.holder.now c.in_ok-used.used c.as_slice.result.now
    c.in_ok-used.ensures.sees c.in_ok-left.left c.as_slice.ensures.same c.in_ok-left.ensures.reads c.in-Ok.planned c.in-Ok.ensures.same

pub returns-in-Ok-clause-sound : goal.returns-in-Ok-clause-sound
returns-in-Ok-clause-sound g c =
    subst (AllSound (g.B.Board.sight c.unnamed.new.board).slots) (sym c.in-Ok.ensures.same)
    (subst (λ (n : ℕ). AllSound n (sweep_of c.in_ok-left.left)) (sym c.in_ok-left.ensures.reads.keeps.slots)
    (sweep_sound (g.B.Board.sight c.named_slots.new.board).slots c.as_slice.result.now c.in_ok-left.left c.in_ok-left.ensures.slots))

pub returns-in-Ok-clause-applies : goal.returns-in-Ok-clause-applies
returns-in-Ok-clause-applies g c = λ w. subst (AllApply w) (sym c.in-Ok.ensures.same) (sweep_applies c.in_ok-left.left w)

pub returns-clause-reads : goal.returns-clause-reads
returns-clause-reads g c =
    not_planned (g.B.Board.sight c.args.board.now) (g.B.Board.sight c.named_slots.new.board) (g.B.Board.sight c.unnamed.new.board) c.args.holder.now c.in_ok-used.used c.as_slice.result.now
    c.in_ok-used.ensures.sees c.in_ok-left.left c.as_slice.ensures.same c.in_ok-left.ensures.reads
