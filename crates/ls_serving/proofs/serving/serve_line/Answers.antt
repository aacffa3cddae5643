use Rattle.std.proofs.Common.{◌++◌, ◌∷◌, [], Bool, IsTrue, sym, subst}
use Rattle.ls_board.specs.declared.action.Action.TheVariants.{Say}
use Rattle.ls_serving.proofs.ServingLemmas.{on_err, line_cut, line_done, saying_cut, said_serving, tidying_cut, tidied, calls_move}
use Rattle.ls_serving.proofs.MetLemmas.{extends-trans}
use Rattle.ls_serving.proofs.TurnLemmas.{inside_extends}
use Rattle.ls_serving.proofs.serving.serve_line.Goals as goal

pub returns-in_err-text-clause-cut : goal.returns-in_err-text-clause-cut
returns-in_err-text-clause-cut g c = λ told start first lines whole kept next serving.
    let s = g.met.S.Service in
    let v = c.args.service.now in
    on_err c.from_residual.result (line_cut g.S.Service.machine (g.S.Service.agrees start.world v) (s.owes start.world v)
    start first (g.B.Board.sight c.args.board.now) (g.B.Board.sight c.serve.new.board) lines (g.S.Service.agrees start.world c.serve.new.self)
    (c.in_err-text.ensures.inside told) (c.in_err-text.ensures.silent told) whole next
    (λ at agreed none. c.in_err-text.ensures.crash told start.world at whole kept agreed none) serving)

pub returns-in_err-say-clause-cut : goal.returns-in_err-say-clause-cut
returns-in_err-say-clause-cut g c = λ told start first lines whole kept next serving.
    let s = g.met.S.Service in
    let m = g.S.Service.machine in
    let v = c.args.service.now in
    let u = c.serve.new.self in
    let old = g.B.Board.sight c.args.board.now in
    let mid = g.B.Board.sight c.serve.new.board in
    let told_mid : IsTrue mid.told = subst (λ (b : Bool). IsTrue b) (sym c.in_ok-text.ensures.keeps.told) told in
    on_err c.from_residual-in_err-say.result (saying_cut m (g.S.Service.agrees start.world u) (s.owes start.world u)
    start first mid (g.B.Board.sight c.say.new.board) lines whole c.in_ok-text.text next _
    (extends-trans start old mid serving.since (inside_extends old mid (c.in_ok-text.ensures.inside told))) (c.in_err-say.ensures.says told_mid)
    (λ none. line_done m (g.S.Service.agrees start.world v) (s.owes start.world v)
    start first old mid lines (g.S.Service.agrees start.world u)
    (c.in_ok-text.ensures.inside told) (c.in_ok-text.ensures.silent told) whole next
    (λ at agreed none. c.in_ok-text.ensures.crash told start.world at whole kept agreed none)
    c.in_ok-text.text (λ at agreed none. c.in_ok-text.ensures.served told start.world at whole kept agreed none) serving none))

pub tidy-requires : goal.tidy-requires
tidy-requires g c =
    g.met.S.Service.can_still c.serve.new.self (g.B.Board.sight c.serve.new.board) (g.B.Board.sight c.say.new.board) (Say c.in_ok-text.text) tt
    c.in_ok-say.ensures.keeps.told c.in_ok-say.ensures.keeps.slots
    (λ told. calls_move (g.B.Board.sight c.serve.new.board) (g.B.Board.sight c.say.new.board) (Say c.in_ok-text.text) (c.in_ok-say.ensures.says told).called) c.in_ok-text.ensures.can

pub returns-in_err-tidy-clause-cut : goal.returns-in_err-tidy-clause-cut
returns-in_err-tidy-clause-cut g c = λ told start first lines whole kept next serving.
    let s = g.met.S.Service in
    let m = g.S.Service.machine in
    let v = c.args.service.now in
    let u = c.serve.new.self in
    let old = g.B.Board.sight c.args.board.now in
    let mid = g.B.Board.sight c.serve.new.board in
    let now = g.B.Board.sight c.say.new.board in
    let told_mid : IsTrue mid.told = subst (λ (b : Bool). IsTrue b) (sym c.in_ok-text.ensures.keeps.told) told in
    let told_now : IsTrue now.told = subst (λ (b : Bool). IsTrue b) (sym c.in_ok-say.ensures.keeps.told) told_mid in
    on_err c.from_residual-in_err-tidy.result (tidying_cut m (g.S.Service.agrees start.world u) (s.owes start.world u)
    start first now (g.B.Board.sight c.tidy.new.board) (lines ++ whole ∷ []) (g.S.Service.agrees start.world c.tidy.new.self)
    (c.in_err-tidy.ensures.inside told_now) (c.in_err-tidy.ensures.silent told_now)
    (λ at agreed. c.in_err-tidy.ensures.crash told_now start.world at agreed)
    (said_serving m (g.S.Service.agrees start.world u) (s.owes start.world u)
    start first mid now lines whole c.in_ok-text.text next _
    (extends-trans start old mid serving.since (inside_extends old mid (c.in_ok-text.ensures.inside told))) (c.in_ok-say.ensures.says told_mid)
    (λ none. line_done m (g.S.Service.agrees start.world v) (s.owes start.world v)
    start first old mid lines (g.S.Service.agrees start.world u)
    (c.in_ok-text.ensures.inside told) (c.in_ok-text.ensures.silent told) whole next
    (λ at agreed none. c.in_ok-text.ensures.crash told start.world at whole kept agreed none)
    c.in_ok-text.text (λ at agreed none. c.in_ok-text.ensures.served told start.world at whole kept agreed none) serving none)
    (c.in_ok-say.ensures.says told_mid).said))

pub returns-clause-served : goal.returns-clause-served
returns-clause-served g c = λ told start first lines whole kept next serving.
    let s = g.met.S.Service in
    let m = g.S.Service.machine in
    let v = c.args.service.now in
    let u = c.serve.new.self in
    let old = g.B.Board.sight c.args.board.now in
    let mid = g.B.Board.sight c.serve.new.board in
    let now = g.B.Board.sight c.say.new.board in
    let told_mid : IsTrue mid.told = subst (λ (b : Bool). IsTrue b) (sym c.in_ok-text.ensures.keeps.told) told in
    let told_now : IsTrue now.told = subst (λ (b : Bool). IsTrue b) (sym c.in_ok-say.ensures.keeps.told) told_mid in
    tidied m (g.S.Service.agrees start.world u) (s.owes start.world u)
    start first now (g.B.Board.sight c.tidy.new.board) (lines ++ whole ∷ []) (g.S.Service.agrees start.world c.tidy.new.self)
    (c.in_ok-tidy.ensures.inside told_now) (c.in_ok-tidy.ensures.silent told_now)
    (λ at agreed. c.in_ok-tidy.ensures.crash told_now start.world at agreed)
    (λ at agreed. c.in_ok-tidy.ensures.agreed told_now start.world at agreed)
    (said_serving m (g.S.Service.agrees start.world u) (s.owes start.world u)
    start first mid now lines whole c.in_ok-text.text next _
    (extends-trans start old mid serving.since (inside_extends old mid (c.in_ok-text.ensures.inside told))) (c.in_ok-say.ensures.says told_mid)
    (λ none. line_done m (g.S.Service.agrees start.world v) (s.owes start.world v)
    start first old mid lines (g.S.Service.agrees start.world u)
    (c.in_ok-text.ensures.inside told) (c.in_ok-text.ensures.silent told) whole next
    (λ at agreed none. c.in_ok-text.ensures.crash told start.world at whole kept agreed none)
    c.in_ok-text.text (λ at agreed none. c.in_ok-text.ensures.served told start.world at whole kept agreed none) serving none)
    (c.in_ok-say.ensures.says told_mid).said)
