use Rattle.std.proofs.lemmas.Result.{err_from_is_err_and}
use Rattle.ls_formats.specs.PartNames.{settings_text}
use Rattle.ls_settings.proofs.ReadLemmas.{read_failed, read_done}
use Rattle.ls_settings.proofs.files.read_by.Goals as goal

pub returns-in_err-answer-clause-file : goal.returns-in_err-answer-clause-file
returns-in_err-answer-clause-file g c = λ told.
    let p = err_from_is_err_and c.from_residual-in_err-answer.result c.from_residual-in_err-answer.ensures.1 in
    rw (p.1, p.2) (read_failed (g.B.Board.sight c.args.board.now) (g.B.Board.sight c.ready.new.self) (g.B.Board.sight c.act.new.self)
    _ _ c.ready.result c.ready.ensures told (settings_text c.args.side) c.args.read.now c.requires.reads c.act.result c.act.new.out.items c.act.ensures c.in_err-answer.field-0.0)

pub returns-clause-file : goal.returns-clause-file
returns-clause-file g c = λ told.
    read_done (g.B.Board.sight c.args.board.now) (g.B.Board.sight c.ready.new.self) (g.B.Board.sight c.act.new.self)
    _ _ c.ready.result c.ready.ensures told (settings_text c.args.side) c.args.read.now c.requires.reads c.act.result c.act.new.out.items c.act.ensures
    c.in_ok-answer.answer c.in_ok-answer.was c.file_in.result c.file_in.ensures.absent c.file_in.ensures.there
