use Rattle.ls_serving.proofs.HeadlineLemmas.{run_ended, said_all}
use Rattle.ls_serving.proofs.hearing.serve_input.Goals as goal

pub returns-clause-held : goal.returns-clause-held
returns-clause-held g c = λ told start first begun none.
    let s = c.serve_all.new.service in
    (run_ended g.S.Service.machine (g.S.Service.agrees start.world s) (g.met.S.Service.owes start.world s) start (g.B.Board.sight c.serve_all.new.board) first
    c.serve_all.result (c.serve_all.ensures.ends told start first begun.input begun.serving) (c.serve_all.ensures.cut told start first begun.input begun.serving)).images none

pub returns-clause-front : goal.returns-clause-front
returns-clause-front g c = λ told start first begun none.
    let s = c.serve_all.new.service in
    (run_ended g.S.Service.machine (g.S.Service.agrees start.world s) (g.met.S.Service.owes start.world s) start (g.B.Board.sight c.serve_all.new.board) first
    c.serve_all.result (c.serve_all.ensures.ends told start first begun.input begun.serving) (c.serve_all.ensures.cut told start first begun.input begun.serving)).says none

pub returns-clause-calls : goal.returns-clause-calls
returns-clause-calls g c = λ told start first begun none.
    let s = c.serve_all.new.service in
    (run_ended g.S.Service.machine (g.S.Service.agrees start.world s) (g.met.S.Service.owes start.world s) start (g.B.Board.sight c.serve_all.new.board) first
    c.serve_all.result (c.serve_all.ensures.ends told start first begun.input begun.serving) (c.serve_all.ensures.cut told start first begun.input begun.serving)).turns none

pub returns-clause-all_said : goal.returns-clause-all_said
returns-clause-all_said g c = λ told is start first begun none.
    let s = c.serve_all.new.service in
    said_all g.S.Service.machine (g.S.Service.agrees start.world s) (g.met.S.Service.owes start.world s) start (g.B.Board.sight c.serve_all.new.board) first
    c.serve_all.result is (c.serve_all.ensures.ends told start first begun.input begun.serving) none

pub returns-clause-ends : goal.returns-clause-ends
returns-clause-ends g c = λ told start first begun. c.serve_all.ensures.ends told start first begun.input begun.serving
