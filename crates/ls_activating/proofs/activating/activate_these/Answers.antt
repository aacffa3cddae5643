use Rattle.std.proofs.Common.{ℕ, sym, ap, subst}
use Rattle.std.specs.Prelude.{Err}
use Rattle.ls_board.specs.declared.action.BoardFault.TheVariants as board
use Rattle.ls_drawing.proofs.PassingLemmas.{passes_lacking}
use Rattle.ls_drawing.specs.Drawing.{stop_of}
use Rattle.ls_script.specs.declared.command.Command.TheVariants as command
use Rattle.ls_tidying.proofs.BehindLemmas.{serves_then, stops_tidying}
use Rattle.ls_turn.specs.declared.session.Session.{Session}
use Rattle.ls_turn.specs.declared.stop.Stop.{Stop}
use Rattle.ls_turn.specs.Agreeing.{files_of}
use Rattle.ls_turn.specs.Serving.{Serves, turned, Always}
use Rattle.ls_activating.specs.declared.planned.Planned.{Planned}
use Rattle.ls_activating.specs.Activating.{SayNone}
use Rattle.ls_activating.proofs.FreeingLemmas.{chosen_say}
use Rattle.ls_activating.proofs.activating.activate_these.Goals as goal

pub activate_free-requires-clause-none : goal.activate_free-requires-clause-none
activate_free-requires-clause-none g c =
    subst (λ l. SayNone (files_of l) c.args.tokens.now) c.deref.ensures.value (c.in-Ok-false.ensures.none c.in-Ok-false.field-0-test)

pub returns-in-Err-clause-serves : goal.returns-in-Err-clause-serves
returns-in-Err-clause-serves g c =
    let x = c.args.x.now in
    let b = g.B.Board.sight c.args.board.now in
    let turn = turned x.slots (command.Activate c.args.user) in
    subst (λ (e : Stop). Serves b x turn Always (Err e) c.stop_by.new.x b) (sym c.stop_by.ensures.stop)
    (subst (λ (y : Session). Serves b x turn Always (Err (stop_of board.Memory)) y b) (sym c.stop_by.ensures.stopped)
    ((passes_lacking {T = Planned} b).stops x turn))

pub returns-in-Ok-clause-serves : goal.returns-in-Ok-clause-serves
returns-in-Ok-clause-serves g c =
    let x = c.args.x.now in
    let y = c.tidy_each.new.x in
    let z = c.activate_free-in-Ok.new.x in
    let old = g.B.Board.sight c.args.board.now in
    let mid = g.B.Board.sight c.tidy_each.new.board in
    let new = g.B.Board.sight c.activate_free-in-Ok.new.board in
    let result = c.activate_free-in-Ok.result in
    serves_then old mid new x y z c.in-Ok.field-0 c.in-Ok.ensures.only (turned x.slots (command.Activate c.args.user)) Always result
    (subst (λ (n : ℕ). Serves mid y (turned n (command.Activate c.args.user)) Always result z new) (ap (λ (s : Session). s.slots) c.in-Ok.ensures.only.rest)
    c.activate_free-in-Ok.ensures.serves)

pub returns-in-Ok-clause-untouched : goal.returns-in-Ok-clause-untouched
returns-in-Ok-clause-untouched g c = λ tidy.
    absurd (c.in-Ok-true.ensures.some c.in-Ok-true.field-0-test
    (subst (λ l. SayNone (files_of l) c.args.tokens.now) (sym c.deref.ensures.value)
    (chosen_say c.args.x.now c.args.user c.args.tokens.now c.requires.chosen tidy)))

pub returns-in-Err-tidy_each-clause-serves : goal.returns-in-Err-tidy_each-clause-serves
returns-in-Err-tidy_each-clause-serves g c =
    let x = c.args.x.now in
    stops_tidying (g.B.Board.sight c.args.board.now) (g.B.Board.sight c.tidy_each.new.board) x c.tidy_each.new.x
    (turned x.slots (command.Activate c.args.user)) Always c.in-Err-tidy_each.why c.in-Err-tidy_each.ensures.only

pub returns-in-Err-tidy_each-clause-untouched : goal.returns-in-Err-tidy_each-clause-untouched
returns-in-Err-tidy_each-clause-untouched g c = λ tidy.
    absurd (c.in-Ok-true.ensures.some c.in-Ok-true.field-0-test
    (subst (λ l. SayNone (files_of l) c.args.tokens.now) (sym c.deref.ensures.value)
    (chosen_say c.args.x.now c.args.user c.args.tokens.now c.requires.chosen tidy)))
