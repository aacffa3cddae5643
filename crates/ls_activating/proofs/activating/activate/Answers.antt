use Rattle.std.proofs.Common.{sym, subst, ◌∙◌}
use Rattle.std.specs.Prelude.{Err}
use Rattle.ls_board.specs.declared.action.BoardFault.TheVariants as board
use Rattle.ls_drawing.proofs.PassingLemmas.{passes_lacking}
use Rattle.ls_drawing.specs.Drawing.{stop_of}
use Rattle.ls_script.specs.declared.command.Command.TheVariants as command
use Rattle.ls_turn.specs.declared.session.Session.{Session}
use Rattle.ls_turn.specs.declared.stop.Stop.{Stop}
use Rattle.ls_turn.specs.Serving.{Serves, turned, Always}
use Rattle.ls_activating.specs.declared.planned.Planned.{Planned}
use Rattle.ls_activating.proofs.TurnLemmas.{activate_refused, none_active}
use Rattle.ls_activating.proofs.activating.activate.Goals as goal

pub returns-in-Some-clause-serves : goal.returns-in-Some-clause-serves
returns-in-Some-clause-serves g c =
    activate_refused c.args.x.now c.args.user (g.B.Board.sight c.args.board.now) c.requires.can c.in-Some.why (sym c.in-Some.ensures.same)

pub returns-then-count-eq0-clause-serves : goal.returns-then-count-eq0-clause-serves
returns-then-count-eq0-clause-serves g c =
    none_active c.args.x.now c.args.user (sym c.in-None.ensures.same) (sym c.count_for-count.ensures.same ∙ c.if-count-eq0.true)
    (g.B.Board.sight c.args.board.now) c.requires.can

pub returns-in-Err-clause-serves : goal.returns-in-Err-clause-serves
returns-in-Err-clause-serves g c =
    let x = c.args.x.now in
    let b = g.B.Board.sight c.args.board.now in
    let turn = turned x.slots (command.Activate c.args.user) in
    subst (λ (e : Stop). Serves b x turn Always (Err e) c.stop_by.new.x b) (sym c.stop_by.ensures.stop)
    (subst (λ (y : Session). Serves b x turn Always (Err (stop_of board.Memory)) y b) (sym c.stop_by.ensures.stopped)
    ((passes_lacking {T = Planned} b).stops x turn))
