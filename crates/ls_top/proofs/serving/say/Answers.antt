use Rattle.std.proofs.Common.{ap, refl, ◌∙◌}
use Rattle.ls_board.specs.declared.world.World.{World}
use Rattle.ls_top.proofs.ServingLemmas.{any_err, ready_told, ready_world, ready_settled, cut_settled}
use Rattle.ls_top.proofs.serving.say.Goals as goal

pub returns-in_err-of-clause-cut : goal.returns-in_err-of-clause-cut
returns-in_err-of-clause-cut g c = λ told start first lines line users settled reply.
    any_err c.from_residual.result _ (λ fault. cut_settled start (g.B.Board.sight c.args.board.now) first lines line users fault settled)

pub returns-in_err-ready-clause-cut : goal.returns-in_err-ready-clause-cut
returns-in_err-ready-clause-cut g c = λ told start first lines line users settled reply.
    any_err c.from_residual-in_err-ready.result _ (λ fault. cut_settled start (g.B.Board.sight c.ready.new.self) first lines line users fault
    (ready_settled (g.B.Board.sight c.args.board.now) (g.B.Board.sight c.ready.new.self) _ _ c.ready.result c.ready.ensures start first lines line users settled))

pub returns-clause-cut : goal.returns-clause-cut
returns-clause-cut g c = λ told start first lines line users settled reply.
    c.say_ready.ensures.cut
    (ready_told (g.B.Board.sight c.args.board.now) (g.B.Board.sight c.ready.new.self) _ _ c.ready.result c.ready.ensures told)
    c.in_ok-of.field-0 refl start first lines line users
    (ready_settled (g.B.Board.sight c.args.board.now) (g.B.Board.sight c.ready.new.self) _ _ c.ready.result c.ready.ensures start first lines line users settled)
    (c.in_ok-of.ensures.same ∙ reply)

pub returns-clause-input : goal.returns-clause-input
returns-clause-input g c = λ told.
    let old = g.B.Board.sight c.args.board.now in
    let mid = g.B.Board.sight c.ready.new.self in
    c.say_ready.ensures.input (ready_told old mid _ _ c.ready.result c.ready.ensures told) c.in_ok-of.field-0 refl
    ∙ ap (λ (w : World). w.input) (ready_world old mid _ _ c.ready.result c.ready.ensures)
