use Rattle.std.proofs.Common.{inl, inr, ap}
use Rattle.std.specs.Prelude.{Err}
use Rattle.ls_board.specs.declared.action.BoardFault.{BoardFault}
use Rattle.ls_top.proofs.RunLemmas.{idle_held, foreign_status, too_long_status, done_status, opened_status}
use Rattle.ls_top.proofs.top.run.Goals as goal

pub returns-then-is_none-clause-held : goal.returns-then-is_none-clause-held
returns-then-is_none-clause-held g c = λ told users stands. inr (idle_held (g.B.Board.sight c.args.board.now) users stands)

pub returns-in-Ok-clause-foreign : goal.returns-in-Ok-clause-foreign
returns-in-Ok-clause-foreign g c = λ told form foreign.
    foreign_status (g.B.Board.sight c.args.board.now) (g.B.Board.sight c.serve.new.board) c.in-Ok.status c.in-Ok.ensures.status (c.in-Ok.ensures.ends told) foreign

pub returns-in-Ok-clause-too_long : goal.returns-in-Ok-clause-too_long
returns-in-Ok-clause-too_long g c = λ told form users stands long.
    too_long_status (g.B.Board.sight c.args.board.now) (g.B.Board.sight c.serve.new.board) c.in-Ok.status c.in-Ok.ensures.status (c.in-Ok.ensures.ends told) users stands long

pub returns-in-Ok-clause-done : goal.returns-in-Ok-clause-done
returns-in-Ok-clause-done g c = λ told form users stands short.
    inl (done_status (g.B.Board.sight c.args.board.now) (g.B.Board.sight c.serve.new.board) c.in-Ok.status c.in-Ok.ensures.status (c.in-Ok.ensures.ends told) users stands short)

pub returns-in-Ok-clause-opened : goal.returns-in-Ok-clause-opened
returns-in-Ok-clause-opened g c = λ told which.
    opened_status (g.B.Board.sight c.args.board.now) (g.B.Board.sight c.serve.new.board) c.in-Ok.status (c.in-Ok.ensures.ends told) which

pub returns-in-Ok-clause-complete : goal.returns-in-Ok-clause-complete
returns-in-Ok-clause-complete g c = λ told form users stands short none.
    inl (done_status (g.B.Board.sight c.args.board.now) (g.B.Board.sight c.serve.new.board) c.in-Ok.status c.in-Ok.ensures.status (c.in-Ok.ensures.ends told) users stands short)

pub returns-in-Err-Failed-clause-complete : goal.returns-in-Err-Failed-clause-complete
returns-in-Err-Failed-clause-complete g c = λ told form users stands short none.
    absurd (none c.in-Err-Failed.part (c.in-Err-Failed.ensures.keeps.cause c.in-Err-Failed.part
    (ap (λ (e : BoardFault). Err e) c.in-Err-Failed.field-0-is)))
