use Rattle.std.proofs.Common.{Bool, IsTrue, sym, subst}
use Rattle.std.specs.Prelude.{Err}
use Rattle.ls_script.specs.declared.command.Command.TheVariants as command
use Rattle.ls_drawing.specs.Drawing.{stop_of}
use Rattle.ls_turn.specs.declared.session.Session.{Session}
use Rattle.ls_turn.specs.declared.stop.Stop.{Stop}
use Rattle.ls_turn.specs.Serving.{Serves, turned, stage_in, Always}
use Rattle.ls_turn.proofs.RefuseLemmas.{refuses}
use Rattle.ls_enrolling.proofs.RefusalLemmas.{add_refused, turn_kept, fine_refuses, err_refuses}
use Rattle.ls_enrolling.proofs.adding.user_add.Goals as goal

pub returns-in-Some-clause-serves : goal.returns-in-Some-clause-serves
returns-in-Some-clause-serves g c = add_refused c.args.x.now c.args.user c.args.escrow (g.B.Board.sight c.args.board.now) c.requires.can c.in-Some.why (sym (c.in-Some.ensures.same c.args.escrow))

pub returns-in-Some-clause-refuses : goal.returns-in-Some-clause-refuses
returns-in-Some-clause-refuses g c = refuses _ (g.B.Board.sight c.args.board.now) c.args.x.now c.in-Some.why (sym (c.in-Some.ensures.same c.args.escrow))

pub planned-requires-clause-goes : goal.planned-requires-clause-goes
planned-requires-clause-goes g c = sym (c.in-None.ensures.same c.args.escrow)

pub carried-requires : goal.carried-requires
carried-requires g c = record { can = c.in-Ok.ensures.passes.goes.can c.args.x.now c.requires.can; planned = c.in-Ok.ensures.plan.planned }

pub returns-in-Ok-clause-serves : goal.returns-in-Ok-clause-serves
returns-in-Ok-clause-serves g c =
    let x = c.args.x.now in
    let old = g.B.Board.sight c.args.board.now in
    let mid = g.B.Board.sight c.planned.new.board in
    let goes = c.in-Ok.ensures.passes.goes in
    let plan = c.in-Ok.ensures.plan in
    let turn = turned x.slots (command.Add c.args.user c.args.escrow) in
    let told_old : IsTrue mid.told → IsTrue old.told = λ told. subst (λ (b : Bool). IsTrue b) goes.told told in
    goes.serves x c.carried.new.x turn c.carried.result (g.B.Board.sight c.carried.new.board)
    (c.carried.ensures.serves plan.planned (λ at. turn (stage_in old.world at.state))
    (λ told s agrees. turn_kept x c.args.user c.args.escrow (sym (c.in-None.ensures.same c.args.escrow)) old.world mid.world plan.planned.drawn
    (plan.bytes (told_old told)) (plan.noise (told_old told)) s agrees))

pub returns-in-Ok-clause-refuses : goal.returns-in-Ok-clause-refuses
returns-in-Ok-clause-refuses g c =
    fine_refuses _ (g.B.Board.sight c.args.board.now) c.args.x.now c.carried.result c.carried.new.x (g.B.Board.sight c.carried.new.board) (sym (c.in-None.ensures.same c.args.escrow)) c.carried.ensures.fine

pub returns-in-Err-clause-serves : goal.returns-in-Err-clause-serves
returns-in-Err-clause-serves g c =
    let x = c.args.x.now in
    let old = g.B.Board.sight c.args.board.now in
    let new = g.B.Board.sight c.planned.new.board in
    let turn = turned x.slots (command.Add c.args.user c.args.escrow) in
    subst (λ (e : Stop). Serves old x turn Always (Err e) c.stop_by.new.x new) (sym c.stop_by.ensures.stop)
    (subst (λ (y : Session). Serves old x turn Always (Err (stop_of c.in-Err.fault)) y new) (sym c.stop_by.ensures.stopped) (c.in-Err.ensures.passes.stops x turn))

pub returns-in-Err-clause-refuses : goal.returns-in-Err-clause-refuses
returns-in-Err-clause-refuses g c =
    err_refuses _ (g.B.Board.sight c.args.board.now) c.args.x.now c.stop_by.result c.stop_by.new.x (g.B.Board.sight c.planned.new.board) (sym (c.in-None.ensures.same c.args.escrow))
