use Rattle.std.proofs.Common.{IsTrue, Bool, refl, sym, ◌∙◌, subst}
use Rattle.std.proofs.lemmas.Result.{err_from_is_err_and}
use Rattle.ls_top.proofs.ServingLemmas.{any_err, ready_told, ready_serving, cut_between, printed_same, same_put}
use Rattle.ls_top.proofs.serving.put_and_say.Goals as goal

pub returns-in_err-settings_name-clause-cut : goal.returns-in_err-settings_name-clause-cut
returns-in_err-settings_name-clause-cut g c = λ told start first lines line before next serving users reply.
    any_err c.from_residual.result _ (λ fault. cut_between start (g.B.Board.sight c.args.board.now) first lines before serving fault)

pub returns-in_err-print-clause-cut : goal.returns-in_err-print-clause-cut
returns-in_err-print-clause-cut g c = λ told start first lines line before next serving users reply.
    any_err c.from_residual-in_err-print.result _ (λ fault. cut_between start (g.B.Board.sight c.args.board.now) first lines before serving fault)

pub returns-in_err-of-clause-cut : goal.returns-in_err-of-clause-cut
returns-in_err-of-clause-cut g c = λ told start first lines line before next serving users reply.
    any_err c.from_residual-in_err-of.result _ (λ fault. cut_between start (g.B.Board.sight c.args.board.now) first lines before serving fault)

pub returns-in_err-ready-clause-cut : goal.returns-in_err-ready-clause-cut
returns-in_err-ready-clause-cut g c = λ told start first lines line before next serving users reply.
    any_err c.from_residual-in_err-ready.result _ (λ fault. cut_between start (g.B.Board.sight c.ready.new.self) first lines before
    (ready_serving (g.B.Board.sight c.args.board.now) (g.B.Board.sight c.ready.new.self) _ _ c.ready.result c.ready.ensures start first lines before serving) fault)

pub returns-in_err-put_synced-clause-cut : goal.returns-in_err-put_synced-clause-cut
returns-in_err-put_synced-clause-cut g c = λ told start first lines line before next serving users reply.
    let old = g.B.Board.sight c.args.board.now in
    let mid = g.B.Board.sight c.ready.new.self in
    let p = err_from_is_err_and c.from_residual-in_err-put_synced.result c.from_residual-in_err-put_synced.ensures.1 in
    rw (p.1, p.2) (c.in_err-put_synced.ensures.cut (ready_told old mid _ _ c.ready.result c.ready.ensures told)
    start first lines line before c.args.users.now next (ready_serving old mid _ _ c.ready.result c.ready.ensures start first lines before serving)
    users c.print.ensures.vault (same_put _ _ _ _ c.in_ok-settings_name.ensures.name c.in_ok-print.ensures.file))

pub returns-clause-served : goal.returns-clause-served
returns-clause-served g c = λ told start first lines line before next serving users reply.
    let old = g.B.Board.sight c.args.board.now in
    let mid = g.B.Board.sight c.ready.new.self in
    let told_mid = ready_told old mid _ _ c.ready.result c.ready.ensures told in
    let settled = c.in_ok-put_synced.ensures.settled told_mid
    start first lines line before c.args.users.now next (ready_serving old mid _ _ c.ready.result c.ready.ensures start first lines before serving)
    users c.print.ensures.vault (same_put _ _ _ _ c.in_ok-settings_name.ensures.name c.in_ok-print.ensures.file) in
    c.say_ready.ensures.served (subst (λ (b : Bool). IsTrue b) (sym c.in_ok-put_synced.ensures.keeps.told) told_mid)
    c.in_ok-of.field-0 refl start first lines line c.args.users.now settled
    (c.in_ok-of.ensures.same ∙ printed_same start old first lines line before c.args.text.now serving reply)

pub returns-clause-cut : goal.returns-clause-cut
returns-clause-cut g c = λ told start first lines line before next serving users reply.
    let old = g.B.Board.sight c.args.board.now in
    let mid = g.B.Board.sight c.ready.new.self in
    let told_mid = ready_told old mid _ _ c.ready.result c.ready.ensures told in
    let settled = c.in_ok-put_synced.ensures.settled told_mid
    start first lines line before c.args.users.now next (ready_serving old mid _ _ c.ready.result c.ready.ensures start first lines before serving)
    users c.print.ensures.vault (same_put _ _ _ _ c.in_ok-settings_name.ensures.name c.in_ok-print.ensures.file) in
    c.say_ready.ensures.cut (subst (λ (b : Bool). IsTrue b) (sym c.in_ok-put_synced.ensures.keeps.told) told_mid)
    c.in_ok-of.field-0 refl start first lines line c.args.users.now settled
    (c.in_ok-of.ensures.same ∙ printed_same start old first lines line before c.args.text.now serving reply)
