use Rattle.std.proofs.lemmas.Result.{err_from_is_err_and}
use Rattle.ls_board.specs.declared.action.BoardFault.TheVariants.{Failed}
use Rattle.ls_settings.proofs.LoadLemmas.{keeps_after, keeps_both}
use Rattle.ls_settings.proofs.ReadLemmas.{second_failed, both_read}
use Rattle.std.proofs.Common.{sym, subst, Bool, IsTrue}
use Rattle.ls_settings.proofs.files.read_files.Goals as goal

pub returns-in_err-second-clause-keeps : goal.returns-in_err-second-clause-keeps
returns-in_err-second-clause-keeps g c =
    let p = err_from_is_err_and c.from_residual-in_err-second.result c.from_residual-in_err-second.ensures.1 in
    rw (p.1, p.2) (keeps_after (λ x. Failed x) (λ x. Failed x) (g.B.Board.sight c.args.board.now) (g.B.Board.sight c.read_side.new.board) (g.B.Board.sight c.read_side-2.new.board)
    c.in_ok-first.first c.in_ok-first.ensures.keeps c.in_err-second.field-0.0 c.in_err-second.ensures.keeps)

pub returns-in_err-second-clause-files : goal.returns-in_err-second-clause-files
returns-in_err-second-clause-files g c = λ told.
    let p = err_from_is_err_and c.from_residual-in_err-second.result c.from_residual-in_err-second.ensures.1 in
    rw (p.1, p.2) (second_failed (g.B.Board.sight c.args.board.now) (g.B.Board.sight c.read_side.new.board) (g.B.Board.sight c.read_side-2.new.board)
    c.in_ok-first.first (c.in_ok-first.ensures.file told) c.in_err-second.field-0.0
    (c.in_err-second.ensures.file (subst (λ (b : Bool). IsTrue b) (sym c.in_ok-first.ensures.keeps.told) told)))

pub returns-clause-files : goal.returns-clause-files
returns-clause-files g c = λ told.
    both_read (g.B.Board.sight c.args.board.now) (g.B.Board.sight c.read_side.new.board) (g.B.Board.sight c.read_side-2.new.board)
    c.in_ok-first.first (c.in_ok-first.ensures.file told) c.in_ok-second.second
    (c.in_ok-second.ensures.file (subst (λ (b : Bool). IsTrue b) (sym c.in_ok-first.ensures.keeps.told) told))

pub returns-clause-keeps : goal.returns-clause-keeps
returns-clause-keeps g c =
    keeps_both (λ x. Failed x) (λ x. Failed x) (g.B.Board.sight c.args.board.now) (g.B.Board.sight c.read_side.new.board) (g.B.Board.sight c.read_side-2.new.board)
    c.in_ok-first.first c.in_ok-first.ensures.keeps c.in_ok-second.second c.in_ok-second.ensures.keeps _
