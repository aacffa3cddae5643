use Rattle.std.proofs.Common.{◌≡◌, ◌≢◌, ◌≤◌, ◌+◌, true, List, length, sym, ap, subst, ◌∙◌}
use Rattle.std.specs.List.{Contains}
use Rattle.ls_edits.specs.Rows.{with_more_tokens}
use Rattle.ls_placing.specs.Placing.{slots_of}
use Rattle.ls_record.specs.declared.edit.Edit.TheVariants.{PutRow}
use Rattle.ls_record.specs.Edits.{MayChange}
use Rattle.ls_record.specs.Rows.{is_odd}
use Rattle.ls_turn.specs.declared.session.Opened.{Opened}
use Rattle.ls_turn.specs.declared.session.Pending.{Pending}
use Rattle.ls_turn.specs.Agreeing.{retired_files}
use Rattle.ls_turn.proofs.RowLemmas.{row_found}
use Rattle.ls_users.proofs.FoundLemmas.{entry_of}
use Rattle.ls_activating.specs.Activating.{SayNone}
use Rattle.ls_activating.specs.Counting.{token_ids}
use Rattle.ls_activating.proofs.MayLemmas.{chosen_odd, few_chosen, may_put}
use Rattle.ls_activating.proofs.PlanLemmas.{passes_ready}
use Rattle.ls_activating.proofs.RefusalLemmas.{entry_some}
use Rattle.ls_activating.proofs.RoomLemmas.{there_is_room}
use Rattle.ls_activating.proofs.planning.planned.Goals as goal

pub unreachable-requires-in_default-find_entry : goal.unreachable-requires-in_default-find_entry
unreachable-requires-in_default-find_entry g c =
    entry_some c.args.x.now c.args.user c.requires.goes c.in-Some.row.now (sym c.in-Some.ensures.same)
    (sym (c.in_default-find_entry.ensures.same ∙ ap (λ (l : List Opened). entry_of l c.args.user) c.deref.ensures.value))

pub planned_behind-requires-clause-few : goal.planned_behind-requires-clause-few
planned_behind-requires-clause-few g c =
    subst (λ (l : List Pending). length l ≤ 8) (sym c.requires.chosen) (few_chosen (g.B.Board.sight c.args.board.now) c.args.x.now c.requires.can c.args.user)

pub planned_behind-requires-clause-may : goal.planned_behind-requires-clause-may
planned_behind-requires-clause-may g c =
    subst (λ (l : List Pending). MayChange c.args.x.now.settings.settled.rec (PutRow (with_more_tokens (token_ids l) c.in-Some.row.now))) (sym c.requires.chosen)
    (may_put (g.B.Board.sight c.args.board.now) c.args.x.now c.requires.can c.args.user c.in-Some.ensures.kept c.in-Some.row.now (sym c.in-Some.ensures.same) c.requires.some)

pub planned_behind-requires-clause-room : goal.planned_behind-requires-clause-room
planned_behind-requires-clause-room g c =
    subst (λ (l : List Pending). c.args.x.now.slots ≢ 0 → length (slots_of c.args.x.now.named.items) + length l ≤ c.args.x.now.slots) (sym c.requires.chosen)
    (there_is_room c.args.x.now c.args.user c.requires.some (g.B.Board.sight c.args.board.now) c.requires.can)

pub planned_behind-requires-clause-odd : goal.planned_behind-requires-clause-odd
planned_behind-requires-clause-odd g c =
    subst (λ (l : List Pending). (p : Pending) → Contains l p → is_odd p.id ≡ true) (sym c.requires.chosen) (chosen_odd (g.B.Board.sight c.args.board.now) c.args.x.now c.requires.can c.args.user)

pub returns-in-Ok : goal.returns-in-Ok
returns-in-Ok g c =
    let opened = sym (c.in-Some-find_entry.ensures.same ∙ ap (λ (l : List Opened). entry_of l c.args.user) c.deref.ensures.value) in
    let x = c.args.x.now in record {
      passes = (
        c.in-Some-find_entry.opened.now,
        opened,
        passes_ready (g.B.Board.sight c.args.board.now) (g.B.Board.sight c.planned_behind.new.board) x c.args.user c.in-Some.ensures.kept c.in-Some.row.now (sym c.in-Some.ensures.same)
            c.in-Some-find_entry.opened.now opened c.requires.some (subst (SayNone (retired_files x)) c.requires.chosen c.requires.none)
            c.in-Some.row.now.user (row_found c.args.user x.settings.settled.rec.users c.in-Some.row.now (sym c.in-Some.ensures.same)).1 c.args.tokens.now c.requires.chosen _ c.in-Ok.ensures.passes,
      );
    }

pub returns-in-Err : goal.returns-in-Err
returns-in-Err g c =
    let opened = sym (c.in-Some-find_entry.ensures.same ∙ ap (λ (l : List Opened). entry_of l c.args.user) c.deref.ensures.value) in
    let x = c.args.x.now in record {
      passes = (
        c.in-Some-find_entry.opened.now,
        opened,
        passes_ready (g.B.Board.sight c.args.board.now) (g.B.Board.sight c.planned_behind.new.board) x c.args.user c.in-Some.ensures.kept c.in-Some.row.now (sym c.in-Some.ensures.same)
            c.in-Some-find_entry.opened.now opened c.requires.some (subst (SayNone (retired_files x)) c.requires.chosen c.requires.none)
            c.in-Some.row.now.user (row_found c.args.user x.settings.settled.rec.users c.in-Some.row.now (sym c.in-Some.ensures.same)).1 c.args.tokens.now c.requires.chosen _ c.in-Err.ensures.passes,
      );
    }
