use Rattle.std.proofs.Common.{◌∙◌}
use Rattle.std.proofs.lemmas.Result.{err_from_is_err_and}
use Rattle.ls_sweep.proofs.LeftLemmas.{no_enrolled, no_keys, all_left}
use Rattle.ls_sweep.proofs.sift.unnamed.Goals as goal

pub returns-in_err-enrolled-clause-reads : goal.returns-in_err-enrolled-clause-reads
returns-in_err-enrolled-clause-reads g c =
    let p = err_from_is_err_and c.from_residual-in_err-enrolled.result c.from_residual-in_err-enrolled.ensures.1 in
    rw (p.1, p.2) (no_enrolled c.args.holder.now c.args.used_slots.now (g.B.Board.sight c.args.board.now) (g.B.Board.sight c.left_files.new.board) c.in_ok-files.files c.in_ok-files.ensures.reads
    (g.B.Board.sight c.left_enrolled.new.board) c.in_err-enrolled.field-0.0 c.in_err-enrolled.ensures.reads)

pub returns-in_err-keys-clause-reads : goal.returns-in_err-keys-clause-reads
returns-in_err-keys-clause-reads g c =
    let p = err_from_is_err_and c.from_residual-in_err-keys.result c.from_residual-in_err-keys.ensures.1 in
    rw (p.1, p.2) (no_keys c.args.holder.now c.args.used_slots.now (g.B.Board.sight c.args.board.now) (g.B.Board.sight c.left_files.new.board) c.in_ok-files.files c.in_ok-files.ensures.reads
    (g.B.Board.sight c.left_enrolled.new.board) c.in_ok-enrolled.enrolled c.in_ok-enrolled.ensures.reads (g.B.Board.sight c.left_keys.new.board) c.in_err-keys.field-0.0 c.in_err-keys.ensures.reads)

pub returns-clause-reads : goal.returns-clause-reads
returns-clause-reads g c =
    all_left c.args.holder.now c.args.used_slots.now (g.B.Board.sight c.args.board.now) (g.B.Board.sight c.left_files.new.board) c.in_ok-files.files c.in_ok-files.ensures.reads
    (g.B.Board.sight c.left_enrolled.new.board) c.in_ok-enrolled.enrolled c.in_ok-enrolled.ensures.reads (g.B.Board.sight c.left_keys.new.board) c.in_ok-keys.keys c.in_ok-slots.slots c.is_cell_left.result
    c.slots.result (λ told. c.slots.ensures ∙ g.met.B.Board.slots_are_told c.args.board.now told) c.in_ok-slots.ensures.those c.is_cell_left.ensures.same c.in_ok-keys.ensures.reads
