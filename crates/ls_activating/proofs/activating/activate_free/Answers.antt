use Rattle.std.proofs.Common.{Bool, IsTrue, refl, sym, subst}
use Rattle.std.specs.Prelude.{Err}
use Rattle.ls_board.specs.declared.action.BoardFault.TheVariants as board
use Rattle.ls_script.specs.declared.command.Command.TheVariants as command
use Rattle.ls_drawing.specs.Drawing.{stop_of}
use Rattle.ls_turn.specs.declared.session.Session.{Session}
use Rattle.ls_turn.specs.declared.stop.Stop.{Stop}
use Rattle.ls_turn.specs.Serving.{Serves, turned, stage_in, Always}
use Rattle.ls_chain.specs.declared.fault.ChainFault.{ChainFault}
use Rattle.ls_activating.specs.Planning.{EndsAt, IsReadyFor}
use Rattle.ls_activating.specs.Halves.{corrupt_by, e0_name}
use Rattle.ls_activating.proofs.EndLemmas.{corrupt_serves, lacks_then}
use Rattle.ls_activating.proofs.RefusalLemmas.{corrupt_refuses}
use Rattle.ls_activating.proofs.TurnLemmas.{turn_kept}
use Rattle.ls_activating.proofs.activating.activate_free.Goals as goal

pub carried-requires : goal.carried-requires
carried-requires g c κs within =
    let its = c.in-Ok.ensures.passes.2.ends in
    (within, (refl, (its.0.can c.args.x.now c.requires.can, its.1.planned)))

pub returns-in-Ok-clause-serves : goal.returns-in-Ok-clause-serves
returns-in-Ok-clause-serves g c =
    let x = c.args.x.now in
    let old = g.B.Board.sight c.args.board.now in
    let mid = g.B.Board.sight c.planned.new.board in
    let its = c.in-Ok.ensures.passes.2.ends in
    let turn = turned x.slots (command.Activate c.args.user) in
    its.0.serves x c.carried.new.x turn c.carried.result (g.B.Board.sight c.carried.new.board)
    (c.carried.ensures.serves (λ at. turn (stage_in old.world at.state))
    (λ told s agrees. turn_kept x c.args.user c.requires.goes old.world mid.world (its.1.noise (subst (λ (b : Bool). IsTrue b) its.0.told told)) s agrees))

pub returns-in-Ok-corrupt_by-clause-serves : goal.returns-in-Ok-corrupt_by-clause-serves
returns-in-Ok-corrupt_by-clause-serves g c =
    let x = c.args.x.now in
    let old = g.B.Board.sight c.args.board.now in
    let new = g.B.Board.sight c.planned.new.board in
    let its = c.in-Err-Corrupt.ensures.passes in
    let ends = subst (λ (f : ChainFault). EndsAt (IsReadyFor old new x c.args.user) c.args.user c.in-Err-Corrupt.ensures.passes.0.secret old (Err f) new) c.in-Err-Corrupt.field-0-is c.in-Err-Corrupt.ensures.passes.2.ends in
    corrupt_serves old new x c.requires.can c.args.user c.requires.some its.0 its.1 ends.0 (turned x.slots (command.Activate c.args.user)) c.requires.goes
    c.in-Err-Corrupt.spot ends.1 c.in-Ok-corrupt_by.why

pub returns-in-Ok-corrupt_by-clause-refuses : goal.returns-in-Ok-corrupt_by-clause-refuses
returns-in-Ok-corrupt_by-clause-refuses g c =
    corrupt_refuses (g.B.Board.sight c.args.board.now) c.args.x.now c.in-Ok-corrupt_by.why (e0_name c.args.user) c.in-Err-Corrupt.spot.at
    (c.in-Ok-corrupt_by.ensures.same c.in-Err-Corrupt.spot refl) c.args.x.now (g.B.Board.sight c.planned.new.board)

pub returns-in-Err-clause-serves : goal.returns-in-Err-clause-serves
returns-in-Err-clause-serves g c =
    let x = c.args.x.now in
    let old = g.B.Board.sight c.args.board.now in
    let new = g.B.Board.sight c.planned.new.board in
    let its = c.in-Err-Corrupt.ensures.passes in
    let ends = subst (λ (f : ChainFault). EndsAt (IsReadyFor old new x c.args.user) c.args.user c.in-Err-Corrupt.ensures.passes.0.secret old (Err f) new) c.in-Err-Corrupt.field-0-is c.in-Err-Corrupt.ensures.passes.2.ends in
    let turn = turned x.slots (command.Activate c.args.user) in
    subst (λ (e : Stop). Serves old x turn Always (Err e) c.stop_by.new.x new) (sym c.stop_by.ensures.stop)
    (subst (λ (y : Session). Serves old x turn Always (Err (stop_of board.Memory)) y new) (sym c.stop_by.ensures.stopped)
    (lacks_then old new x c.requires.can c.args.user c.requires.some its.0 its.1 ends.0 turn x turn))

pub returns-in-Err-Failed-clause-serves : goal.returns-in-Err-Failed-clause-serves
returns-in-Err-Failed-clause-serves g c =
    let x = c.args.x.now in
    let old = g.B.Board.sight c.args.board.now in
    let new = g.B.Board.sight c.planned.new.board in
    let turn = turned x.slots (command.Activate c.args.user) in
    subst (λ (e : Stop). Serves old x turn Always (Err e) c.stop_by-in-Err-Failed.new.x new) (sym c.stop_by-in-Err-Failed.ensures.stop)
    (subst (λ (y : Session). Serves old x turn Always (Err (stop_of (board.Failed c.in-Err-Failed.part))) y new) (sym c.stop_by-in-Err-Failed.ensures.stopped)
    ((subst (λ (f : ChainFault). EndsAt (IsReadyFor old new x c.args.user) c.args.user c.in-Err-Failed.ensures.passes.0.secret old (Err f) new) c.in-Err-Failed.field-0-is c.in-Err-Failed.ensures.passes.2.ends) x turn))

pub returns-in-Err-Memory-clause-serves : goal.returns-in-Err-Memory-clause-serves
returns-in-Err-Memory-clause-serves g c =
    let x = c.args.x.now in
    let old = g.B.Board.sight c.args.board.now in
    let new = g.B.Board.sight c.planned.new.board in
    let turn = turned x.slots (command.Activate c.args.user) in
    subst (λ (e : Stop). Serves old x turn Always (Err e) c.stop_by-in-Err-Memory.new.x new) (sym c.stop_by-in-Err-Memory.ensures.stop)
    (subst (λ (y : Session). Serves old x turn Always (Err (stop_of board.Memory)) y new) (sym c.stop_by-in-Err-Memory.ensures.stopped)
    ((subst (λ (f : ChainFault). EndsAt (IsReadyFor old new x c.args.user) c.args.user c.in-Err-Memory.ensures.passes.0.secret old (Err f) new) c.in-Err-Memory.field-0-is c.in-Err-Memory.ensures.passes.2.ends) x turn))
