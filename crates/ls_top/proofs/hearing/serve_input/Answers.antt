use Rattle.std.proofs.Common.{Bool, IsTrue, sym, ◌∙◌, subst}
use Rattle.std.proofs.lemmas.Result.{err_from_is_err_and}
use Rattle.ls_top.specs.declared.hearing.Ending.{Ending}
use Rattle.ls_top.specs.Ending.{IsEnding}
use Rattle.ls_top.proofs.hearing.serve_input.Goals as goal

pub returns-in_err-serve_last-in-AtEnd-clause-cut : goal.returns-in_err-serve_last-in-AtEnd-clause-cut
returns-in_err-serve_last-in-AtEnd-clause-cut g c = λ told start first same serving.
    let heard = g.B.Board.sight c.hear_all.new.board in
    let ending = subst (λ (e : Ending). IsEnding start heard first c.hear_all.new.users c.hear_all.new.line e) c.in-AtEnd.is
    (c.in_ok-hear_all.ensures.ends told start first same c.new-line.ensures.empty serving) in
    let p = err_from_is_err_and c.from_residual-in_err-serve_last-in-AtEnd.result c.from_residual-in_err-serve_last-in-AtEnd.ensures.1 in
    rw (p.1, p.2) (c.in_err-serve_last-in-AtEnd.ensures.cut (subst (λ (b : Bool). IsTrue b) (sym c.in_ok-hear_all.ensures.keeps.told) told) start first ending.2)

pub returns-in-AtEnd-clause-ends : goal.returns-in-AtEnd-clause-ends
returns-in-AtEnd-clause-ends g c = λ told start first same serving.
    let heard = g.B.Board.sight c.hear_all.new.board in
    let told_heard = subst (λ (b : Bool). IsTrue b) (sym c.in_ok-hear_all.ensures.keeps.told) told in
    let ending = subst (λ (e : Ending). IsEnding start heard first c.hear_all.new.users c.hear_all.new.line e) c.in-AtEnd.is
    (c.in_ok-hear_all.ensures.ends told start first same c.new-line.ensures.empty serving) in (
      ending.0,
      c.in_ok-serve_last-in-AtEnd.ensures.input told_heard ∙ ending.1,
      (c.serve_last.new.users, c.in_ok-serve_last-in-AtEnd.ensures.served told_heard start first ending.2),
    )

pub returns-clause-ends : goal.returns-clause-ends
returns-clause-ends g c = λ told start first same serving.
    let heard = g.B.Board.sight c.hear_all.new.board in
    let ending = subst (λ (e : Ending). IsEnding start heard first c.hear_all.new.users c.hear_all.new.line e) c.in-AtLimit.is
    (c.in_ok-hear_all.ensures.ends told start first same c.new-line.ensures.empty serving) in
    (ending.0, ending.1, (c.hear_all.new.users, ending.2))
