use Rattle.std.proofs.Common.{ℕ, List, ◌∙◌, ap, subst}
use Rattle.ls_formats.specs.declared.parts.Parts.{Parts}
use Rattle.ls_protector.specs.Parts.{first_removed}
use Rattle.ls_protector.specs.Steps.{Steps}
use Rattle.ls_protector.proofs.TidyLemmas.{tidied_but, tidied_stands}
use Rattle.ls_protector.proofs.tidy.tidy_step.Goals as goal

pub returns-clause-but : goal.returns-clause-but
returns-clause-but g c =
    let same = c.replace-names.ensures.value ∙ ap (λ (p : Parts). p.names) c.retired.view_is in
    tidied_but (g.B.Board.sight c.args.board.now) (g.B.Board.sight c.remove_first-names.new.board) c.args.retired.now.names c.remove_first-names.result.done
    (subst (λ (names : List (List ℕ)). Steps {T = Unit {0}} (g.B.Board.sight c.args.board.now) (first_removed names) c.remove_first-names.result.done (g.B.Board.sight c.remove_first-names.new.board)) same
    c.remove_first-names.ensures.steps)

pub returns-clause-stands : goal.returns-clause-stands
returns-clause-stands g c =
    let same = c.replace-names.ensures.value ∙ ap (λ (p : Parts). p.names) c.retired.view_is in
    tidied_stands (g.B.Board.sight c.args.board.now) (g.B.Board.sight c.remove_first-names.new.board) c.args.retired.now.names c.remove_first-names.result.done
    (subst (λ (names : List (List ℕ)). Steps {T = Unit {0}} (g.B.Board.sight c.args.board.now) (first_removed names) c.remove_first-names.result.done (g.B.Board.sight c.remove_first-names.new.board)) same
    c.remove_first-names.ensures.steps) c.requires.unnamed
