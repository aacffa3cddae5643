use Rattle.std.proofs.Common.{List, sym, ap, ◌∙◌}
use Rattle.ls_turn.specs.declared.session.Opened.{Opened}
use Rattle.ls_turn.proofs.RowLemmas.{row_found}
use Rattle.ls_users.proofs.FoundLemmas.{entry_of}
use Rattle.ls_changing.proofs.RefusalLemmas.{entry_some, ready_for}
use Rattle.ls_changing.proofs.changing.planned_for.Goals as goal

pub unreachable-requires-in_default-find_entry : goal.unreachable-requires-in_default-find_entry
unreachable-requires-in_default-find_entry g c =
    entry_some c.args.x.now c.args.user c.args.new.now c.requires.goes c.in-Some.row.now (sym c.in-Some.ensures.same)
    (sym (c.in_default-find_entry.ensures.same ∙ ap (λ (l : List Opened). entry_of l c.args.user) c.deref.ensures.value))

pub planned-requires-clause-here : goal.planned-requires-clause-here
planned-requires-clause-here g c = (row_found c.args.user c.args.x.now.settings.settled.rec.users c.in-Some.row.now (sym c.in-Some.ensures.same)).0

pub returns-clause-plan : goal.returns-clause-plan
returns-clause-plan g c =
    ready_for (g.B.Board.sight c.args.board.now) (g.B.Board.sight c.planned.new.board) c.args.x.now c.args.user c.args.new.now c.requires.goes c.in-Some.ensures.kept
    c.in-Some.row.now (sym c.in-Some.ensures.same) c.in-Some-find_entry.opened.now
    (sym (c.in-Some-find_entry.ensures.same ∙ ap (λ (l : List Opened). entry_of l c.args.user) c.deref.ensures.value)) c.planned.result c.planned.ensures.plan
