use Rattle.std.proofs.Common.{Bool, IsTrue, refl, sym, subst}
use Rattle.std.proofs.lemmas.Result.{err_from_is_err_and}
use Rattle.ls_top.specs.declared.hearing.Ending.{Ending}
use Rattle.ls_top.specs.declared.opening.Opening.{Opening}
use Rattle.ls_top.specs.Ending.{IsOutcome}
use Rattle.ls_top.specs.Opening.{IsOpening, NamesSettings}
use Rattle.ls_top.proofs.OpeningLemmas.{first_serving, same_input}
use Rattle.ls_top.proofs.RunLemmas.{stops_idle, stops_serving, ends_done, ends_too_long}
use Rattle.ls_top.proofs.top.serve.Goals as goal

pub returns-in_err-name-clause-cut : goal.returns-in_err-name-clause-cut
returns-in_err-name-clause-cut g c = λ told.
    let opens = c.in_err-name.ensures.opens told in
    let p = err_from_is_err_and c.from_residual.result c.from_residual.ensures.1 in
    rw (p.1, p.2) (stops_idle (g.B.Board.sight c.args.board.now) (g.B.Board.sight c.open.new.board) c.in_err-name.field-0.0 opens.same opens.calls)

pub returns-in_err-serve_input-in-Found-clause-cut : goal.returns-in_err-serve_input-in-Found-clause-cut
returns-in_err-serve_input-in-Found-clause-cut g c = λ told.
    let old = g.B.Board.sight c.args.board.now in
    let mid = g.B.Board.sight c.open.new.board in
    let opens = c.in_ok-name.ensures.opens told in
    let opening = subst (λ (o : Opening). IsOpening old.world o) c.in-Found.is opens.found in
    let p = err_from_is_err_and c.from_residual-in_err-serve_input-in-Found.result c.from_residual-in_err-serve_input-in-Found.ensures.1 in
    rw (p.1, p.2) (stops_serving old (g.B.Board.sight c.serve_input.new.board) c.in-Found.users opening.0 opening.1 c.in_err-serve_input-in-Found.field-0.0
    (c.in_err-serve_input-in-Found.ensures.cut (subst (λ (b : Bool). IsTrue b) (sym c.in_ok-name.ensures.keeps.told) told) old c.in-Found.users
    (same_input old.world mid.world opens.same) (first_serving old mid opens.same opens.calls c.in-Found.users opening.0 opens.synced)))

pub returns-in-Foreign-clause-status : goal.returns-in-Foreign-clause-status
returns-in-Foreign-clause-status g c = (subst (λ (o : Opening). NamesSettings o) c.in-Foreign.is c.in_ok-name.ensures.named, refl)

pub returns-in-AtEnd-clause-ends : goal.returns-in-AtEnd-clause-ends
returns-in-AtEnd-clause-ends g c = λ told.
    let old = g.B.Board.sight c.args.board.now in
    let mid = g.B.Board.sight c.open.new.board in
    let new = g.B.Board.sight c.serve_input.new.board in
    let opens = c.in_ok-name.ensures.opens told in
    let opening = subst (λ (o : Opening). IsOpening old.world o) c.in-Found.is opens.found in
    ends_done old new c.in-Found.users opening.0 opening.1
    (subst (λ (e : Ending). IsOutcome old new c.in-Found.users e) c.in-AtEnd.is
    (c.in_ok-serve_input-in-Found.ensures.ends (subst (λ (b : Bool). IsTrue b) (sym c.in_ok-name.ensures.keeps.told) told) old c.in-Found.users
    (same_input old.world mid.world opens.same) (first_serving old mid opens.same opens.calls c.in-Found.users opening.0 opens.synced)))

pub returns-in-AtLimit-clause-ends : goal.returns-in-AtLimit-clause-ends
returns-in-AtLimit-clause-ends g c = λ told.
    let old = g.B.Board.sight c.args.board.now in
    let mid = g.B.Board.sight c.open.new.board in
    let new = g.B.Board.sight c.serve_input.new.board in
    let opens = c.in_ok-name.ensures.opens told in
    let opening = subst (λ (o : Opening). IsOpening old.world o) c.in-Found.is opens.found in
    ends_too_long old new c.in-Found.users opening.0 opening.1
    (subst (λ (e : Ending). IsOutcome old new c.in-Found.users e) c.in-AtLimit.is
    (c.in_ok-serve_input-in-Found.ensures.ends (subst (λ (b : Bool). IsTrue b) (sym c.in_ok-name.ensures.keeps.told) told) old c.in-Found.users
    (same_input old.world mid.world opens.same) (first_serving old mid opens.same opens.calls c.in-Found.users opening.0 opens.synced)))
