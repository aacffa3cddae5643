use Rattle.std.proofs.Common.{rules, ◌≢◌, sym, ◌∙◌}
use Rattle.std.specs.Prelude.{Some}
use Rattle.ls_top.specs.declared.vault.Reply.TheVariants.{Fine}
use Rattle.ls_top.proofs.ServingLemmas.{any_err, cut_between, settled_same, front_users, front_printed, printed_same}
use Rattle.ls_top.proofs.serving.serve_line.Goals as goal

pub returns-in_err-reply-clause-cut : goal.returns-in_err-reply-clause-cut
returns-in_err-reply-clause-cut g c = λ told start first lines whole kept next serving.
    any_err c.from_residual.result _ (λ fault. cut_between start (g.B.Board.sight c.args.board.now) first lines c.args.users.now serving fault)

pub returns-then-eq-clause-served : goal.returns-then-eq-clause-served
returns-then-eq-clause-served g c = λ told start first lines whole kept next serving.
    c.put_and_say.ensures.served told start first lines whole c.args.users.now next serving
    (front_users c.args.users.now c.args.line.now whole kept c.reply_to.new.users c.in_ok-reply.ensures.users)
    (front_printed c.args.users.now c.args.line.now whole kept c.printed-text.result.now (c.in_ok-reply.ensures.printed ∙ sym c.printed-text.ensures.text))

pub returns-then-eq-clause-cut : goal.returns-then-eq-clause-cut
returns-then-eq-clause-cut g c = λ told start first lines whole kept next serving.
    c.put_and_say.ensures.cut told start first lines whole c.args.users.now next serving
    (front_users c.args.users.now c.args.line.now whole kept c.reply_to.new.users c.in_ok-reply.ensures.users)
    (front_printed c.args.users.now c.args.line.now whole kept c.printed-text.result.now (c.in_ok-reply.ensures.printed ∙ sym c.printed-text.ensures.text))

pub returns-else-eq-clause-served : goal.returns-else-eq-clause-served
returns-else-eq-clause-served g c = λ told start first lines whole kept next serving.
    let other : c.in_ok-reply.reply ≢ Some Fine = search rules in
    let users = front_users c.args.users.now c.args.line.now whole kept c.reply_to.new.users c.in_ok-reply.ensures.users in
    let text = front_printed c.args.users.now c.args.line.now whole kept c.printed-text.result.now (c.in_ok-reply.ensures.printed ∙ sym c.printed-text.ensures.text) in
    c.say.ensures.served told start first lines whole c.reply_to.new.users
    (settled_same start (g.B.Board.sight c.args.board.now) first lines whole c.args.users.now c.reply_to.new.users next serving (c.in_ok-reply.ensures.same other) users)
    (printed_same start (g.B.Board.sight c.args.board.now) first lines whole c.args.users.now c.printed-text.result.now serving text)

pub returns-else-eq-clause-cut : goal.returns-else-eq-clause-cut
returns-else-eq-clause-cut g c = λ told start first lines whole kept next serving.
    let other : c.in_ok-reply.reply ≢ Some Fine = search rules in
    let users = front_users c.args.users.now c.args.line.now whole kept c.reply_to.new.users c.in_ok-reply.ensures.users in
    let text = front_printed c.args.users.now c.args.line.now whole kept c.printed-text.result.now (c.in_ok-reply.ensures.printed ∙ sym c.printed-text.ensures.text) in
    c.say.ensures.cut told start first lines whole c.reply_to.new.users
    (settled_same start (g.B.Board.sight c.args.board.now) first lines whole c.args.users.now c.reply_to.new.users next serving (c.in_ok-reply.ensures.same other) users)
    (printed_same start (g.B.Board.sight c.args.board.now) first lines whole c.args.users.now c.printed-text.result.now serving text)
