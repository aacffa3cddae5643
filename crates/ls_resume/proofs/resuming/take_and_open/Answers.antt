use Rattle.std.proofs.Common.{◌≡◌, true, List, ℕ, Option, Some, Ok, sym, ◌∙◌, subst, arith}
use Rattle.ls_board.specs.declared.action.Action.TheVariants.{ResumeTake}
use Rattle.ls_resume.specs.Learning.{Learns}
use Rattle.ls_resume.proofs.ResumeLemmas.{boot_good}
use Rattle.ls_resume.proofs.resuming.take_and_open.Goals as goal

pub returns-clause-learns : goal.returns-clause-learns
returns-clause-learns g c =
    let old = g.B.Board.sight c.args.board.now in
    let mid = g.B.Board.sight c.take_key.new.board in
    let good : c.is_good.result ≡ true = grind (arith, c.if-not-is_good.false) in
    boot_good c.args.armed c.args.boot c.args.found old mid c.in-Some.once (g.B.Board.sight c.open_found.new.board) c.open_found.result (sym c.is_good.ensures.same ∙ good)
    (subst (λ (o : Option (List ℕ)). Learns (Some ResumeTake) (λ w. w.cell) old (Ok o) mid) c.in-Some.is c.in_ok-once.ensures.learns) c.open_found.ensures.learns
