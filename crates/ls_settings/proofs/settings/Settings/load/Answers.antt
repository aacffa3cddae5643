use Rattle.std.proofs.Common.{sym, subst, Bool, IsTrue}
use Rattle.std.proofs.lemmas.Result.{err_from_is_err_and}
use Rattle.ls_board.specs.declared.action.BoardFault.TheVariants.{Failed}
use Rattle.ls_settings.specs.declared.fault.OpenRefusal.TheVariants.{Fault}
use Rattle.ls_settings.proofs.LoadLemmas.{keeps_after, unread, refused, unmade, are_loaded}
use Rattle.ls_settings.proofs.settings.Settings.load.Goals as goal

pub returns-in_err-files-clause-loads : goal.returns-in_err-files-clause-loads
returns-in_err-files-clause-loads g c = λ told.
    let p = err_from_is_err_and c.from_residual.result c.from_residual.ensures.1 in
    rw (p.1, p.2) (unread (g.B.Board.sight c.args.board.now) (g.B.Board.sight c.read_files.new.board) c.in_err-files.field-0.0 (c.in_err-files.ensures.files told))

pub returns-in_err-settings-clause-loads : goal.returns-in_err-settings-clause-loads
returns-in_err-settings-clause-loads g c = λ told.
    let p = err_from_is_err_and c.from_residual-in_err-settings.result c.from_residual-in_err-settings.ensures.1 in
    rw (p.1, p.2) (refused (g.B.Board.sight c.args.board.now) (g.B.Board.sight c.read_files.new.board) c.in_ok-files.files (c.in_ok-files.ensures.files told)
    c.in_err-settings.field-0.0 c.in_err-settings.ensures.exact)

pub returns-in_err-make_files-clause-keeps : goal.returns-in_err-make_files-clause-keeps
returns-in_err-make_files-clause-keeps g c =
    let p = err_from_is_err_and c.from_residual-in_err-make_files.result c.from_residual-in_err-make_files.ensures.1 in
    rw (p.1, p.2) (keeps_after (λ x. Failed x) (λ x. Fault x) (g.B.Board.sight c.args.board.now) (g.B.Board.sight c.read_files.new.board) (g.B.Board.sight c.make_files.new.board)
    c.in_ok-files.files c.in_ok-files.ensures.keeps c.in_err-make_files.field-0.0 c.in_err-make_files.ensures.keeps)

pub returns-in_err-make_files-clause-loads : goal.returns-in_err-make_files-clause-loads
returns-in_err-make_files-clause-loads g c = λ told.
    let p = err_from_is_err_and c.from_residual-in_err-make_files.result c.from_residual-in_err-make_files.ensures.1 in
    rw (p.1, p.2) (unmade (g.B.Board.sight c.args.board.now) (g.B.Board.sight c.read_files.new.board) c.in_ok-files.files (c.in_ok-files.ensures.files told)
    (g.B.Board.sight c.make_files.new.board) c.in_ok-settings.settings c.in_err-make_files.field-0.0 c.in_err-make_files.ensures.never
    (c.in_err-make_files.ensures.makes (subst (λ (b : Bool). IsTrue b) (sym c.in_ok-files.ensures.keeps.told) told)))

pub returns-clause-loads : goal.returns-clause-loads
returns-clause-loads g c = λ told.
    are_loaded (g.B.Board.sight c.args.board.now) (g.B.Board.sight c.read_files.new.board) c.in_ok-files.files (c.in_ok-files.ensures.files told)
    (g.B.Board.sight c.make_files.new.board) c.in_ok-settings.settings c.in_ok-make_files.field-0
    (c.in_ok-make_files.ensures.makes (subst (λ (b : Bool). IsTrue b) (sym c.in_ok-files.ensures.keeps.told) told))
