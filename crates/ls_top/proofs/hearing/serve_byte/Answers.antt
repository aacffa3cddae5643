use Rattle.std.proofs.Common.{◌≡◌, ◌++◌, ◌∷◌, [], ℕ, List, sym, ◌∙◌, ap, subst}
use Rattle.std.proofs.lemmas.Result.{err_from_is_err_and}
use Rattle.ls_lines.specs.Lines.{parted}
use Rattle.ls_top.specs.Serving.{Progress}
use Rattle.ls_top.proofs.ServingLemmas.{any_err}
use Rattle.ls_top.proofs.HearingLemmas.{line_next, line_ended, byte_kept, cut_progress, other_byte}
use Rattle.ls_top.proofs.hearing.serve_byte.Goals as goal

pub returns-in_err-serve_line-clause-cut : goal.returns-in_err-serve_line-clause-cut
returns-in_err-serve_line-clause-cut g c = λ told start first heard rest input progress.
    let ended : start.world.input ≡ heard ++ 10 ∷ rest = input ∙ ap (λ (x : ℕ). heard ++ x ∷ rest) c.if-b-eq10.true in
    let p = err_from_is_err_and c.from_residual.result c.from_residual.ensures.1 in
    rw (p.1, p.2) (c.in_err-serve_line.ensures.cut told start first (parted heard).whole (parted heard).rest
    (c.as_slice.ensures.same ∙ progress.kept) (line_next start first heard rest ended) progress.serving)

pub returns-in_err-push-clause-cut : goal.returns-in_err-push-clause-cut
returns-in_err-push-clause-cut g c = λ told start first heard rest input progress.
    any_err c.from_residual-in_err-push.result _ (λ fault. cut_progress start (g.B.Board.sight c.args.board.now) first heard c.args.users.now c.args.line.now fault progress)

pub returns-in_ok-serve_line-clause-served : goal.returns-in_ok-serve_line-clause-served
returns-in_ok-serve_line-clause-served g c = λ told start first heard rest input progress.
    let ended : start.world.input ≡ heard ++ 10 ∷ rest = input ∙ ap (λ (x : ℕ). heard ++ x ∷ rest) c.if-b-eq10.true in
    let serving = c.in_ok-serve_line.ensures.served told start first (parted heard).whole (parted heard).rest
    (c.as_slice.ensures.same ∙ progress.kept) (line_next start first heard rest ended) progress.serving in
    let after = line_ended start first heard rest ended (g.B.Board.sight c.serve_line.new.board) c.serve_line.new.users serving in
    subst (λ (l : List ℕ). Progress start (g.B.Board.sight c.serve_line.new.board) first (heard ++ c.args.b ∷ []) c.serve_line.new.users l) (sym c.clear.ensures.empty)
    (subst (λ (x : ℕ). Progress start (g.B.Board.sight c.serve_line.new.board) first (heard ++ x ∷ []) c.serve_line.new.users []) (sym c.if-b-eq10.true) after)

pub returns-in_ok-push-clause-served : goal.returns-in_ok-push-clause-served
returns-in_ok-push-clause-served g c = λ told start first heard rest input progress.
    byte_kept start (g.B.Board.sight c.args.board.now) first heard rest c.args.users.now c.args.line.now c.push.new.self c.args.b input
    (other_byte c.args.b 10 c.if-b-eq10.false) progress c.in_ok-push.ensures.pushed
