use Rattle.std.proofs.Common.{◌≡◌, ◌++◌, ◌∷◌, [], ℕ, List, sym, ◌∙◌, ap, subst}
use Rattle.ls_lines.specs.Lines.{parted}
use Rattle.ls_serving.specs.Serving.{Progress}
use Rattle.ls_serving.proofs.ServingLemmas.{cut_between, on_err}
use Rattle.ls_serving.proofs.HearingLemmas.{line_next, line_ended, byte_kept, other_byte}
use Rattle.ls_serving.proofs.hearing.serve_byte.Goals as goal

pub returns-in_err-serve_line-clause-cut : goal.returns-in_err-serve_line-clause-cut
returns-in_err-serve_line-clause-cut g c = λ told start first heard rest input progress.
    let ended : start.world.input ≡ heard ++ 10 ∷ rest = input ∙ ap (λ (x : ℕ). heard ++ x ∷ rest) c.if-b-eq10.true in
    on_err c.from_residual.result (c.in_err-serve_line.ensures.cut told start first (parted heard).whole (parted heard).rest
    (c.as_slice.ensures.same ∙ progress.kept) (line_next start heard rest ended) progress.serving)

pub returns-in_err-push-clause-cut : goal.returns-in_err-push-clause-cut
returns-in_err-push-clause-cut g c = λ told start first heard rest input progress.
    let s = g.met.S.Service in
    on_err c.from_residual-in_err-push.result
    (cut_between g.S.Service.machine (g.S.Service.agrees start.world c.args.service.now) (s.owes start.world c.args.service.now)
    start first (g.B.Board.sight c.args.board.now) (parted heard).whole progress.serving)

pub returns-in_ok-serve_line-clause-served : goal.returns-in_ok-serve_line-clause-served
returns-in_ok-serve_line-clause-served g c = λ told start first heard rest input progress.
    let ended : start.world.input ≡ heard ++ 10 ∷ rest = input ∙ ap (λ (x : ℕ). heard ++ x ∷ rest) c.if-b-eq10.true in
    let m = g.S.Service.machine in
    let now = g.B.Board.sight c.serve_line.new.board in
    let serving = c.in_ok-serve_line.ensures.served told start first (parted heard).whole (parted heard).rest
    (c.as_slice.ensures.same ∙ progress.kept) (line_next start heard rest ended) progress.serving in
    let after = line_ended m (g.S.Service.agrees start.world c.serve_line.new.service) start first now heard rest ended serving in
    subst (λ (l : List ℕ). Progress m (g.S.Service.agrees start.world c.serve_line.new.service) start now first (heard ++ c.args.b ∷ []) l) (sym c.clear.ensures.empty)
    (subst (λ (x : ℕ). Progress m (g.S.Service.agrees start.world c.serve_line.new.service) start now first (heard ++ x ∷ []) []) (sym c.if-b-eq10.true) after)

pub returns-in_ok-push-clause-served : goal.returns-in_ok-push-clause-served
returns-in_ok-push-clause-served g c = λ told start first heard rest input progress.
    byte_kept g.S.Service.machine (g.S.Service.agrees start.world c.args.service.now) start first (g.B.Board.sight c.args.board.now) heard rest c.args.line.now c.push.new.self c.args.b input
    (other_byte c.args.b 10 c.if-b-eq10.false) progress c.in_ok-push.ensures.pushed
