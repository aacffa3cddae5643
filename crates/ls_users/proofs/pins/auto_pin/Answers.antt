use Rattle.std.proofs.Common.{List, refl, sym, ◌∙◌, ap, subst}
use Rattle.ls_record.specs.declared.edit.Edit.TheVariants.{PutRow}
use Rattle.ls_record.specs.declared.row.UserRow.{UserRow}
use Rattle.ls_record.specs.Edits.{MayChange}
use Rattle.ls_script.specs.declared.command.Command.TheVariants as command
use Rattle.ls_turn.specs.declared.session.Opened.{Opened}
use Rattle.ls_turn.specs.Serving.{turned, Always}
use Rattle.ls_turn.proofs.StillLemmas.{lacking}
use Rattle.ls_users.specs.Putting.{PutsRow}
use Rattle.ls_users.proofs.AnswerLemmas.{nobody_serves, locked_serves, locked_refuses, same_serves, same_refuses, worn_serves, worn_refuses, goes_on_refuses}
use Rattle.ls_users.proofs.CommitLemmas.{pin_may, pin_named, pin_waits, pin_left, pin_commits}
use Rattle.ls_users.proofs.FoundLemmas.{entry_of}
use Rattle.ls_users.proofs.pins.auto_pin.Goals as goal

pub returns-in_default-clause-serves : goal.returns-in_default-clause-serves
returns-in_default-clause-serves g c = nobody_serves (g.B.Board.sight c.args.board.now) c.args.x.now c.args.user c.args.on (sym c.in_default.ensures.same) c.requires.can

pub returns-in_default-find_entry-clause-serves : goal.returns-in_default-find_entry-clause-serves
returns-in_default-find_entry-clause-serves g c =
    locked_serves (g.B.Board.sight c.args.board.now) c.args.x.now c.args.user c.args.on c.in-Some.row.now (sym c.in-Some.ensures.same)
    (sym (c.in_default-find_entry.ensures.same ∙ ap (λ (l : List Opened). entry_of l c.args.user) c.deref.ensures.value)) c.requires.can

pub returns-in_default-find_entry-clause-refuses : goal.returns-in_default-find_entry-clause-refuses
returns-in_default-find_entry-clause-refuses g c =
    locked_refuses (g.B.Board.sight c.args.board.now) c.args.x.now c.args.user c.args.on c.in-Some.row.now (sym c.in-Some.ensures.same)
    (sym (c.in_default-find_entry.ensures.same ∙ ap (λ (l : List Opened). entry_of l c.args.user) c.deref.ensures.value))

pub returns-then-not-differs-clause-serves : goal.returns-then-not-differs-clause-serves
returns-then-not-differs-clause-serves g c =
    same_serves (g.B.Board.sight c.args.board.now) c.args.x.now c.args.user c.args.on c.in-Some.row.now (sym c.in-Some.ensures.same)
    c.in-Some-find_entry.opened.now (sym (c.in-Some-find_entry.ensures.same ∙ ap (λ (l : List Opened). entry_of l c.args.user) c.deref.ensures.value))
    (sym c.if-not-differs.ensures.same) c.requires.can

pub returns-then-not-differs-clause-refuses : goal.returns-then-not-differs-clause-refuses
returns-then-not-differs-clause-refuses g c =
    same_refuses (g.B.Board.sight c.args.board.now) c.args.x.now c.args.user c.args.on c.in-Some.row.now (sym c.in-Some.ensures.same)
    c.in-Some-find_entry.opened.now (sym (c.in-Some-find_entry.ensures.same ∙ ap (λ (l : List Opened). entry_of l c.args.user) c.deref.ensures.value))
    (sym c.if-not-differs.ensures.same)

pub returns-then-sequence-eq18446744073709551615-clause-serves : goal.returns-then-sequence-eq18446744073709551615-clause-serves
returns-then-sequence-eq18446744073709551615-clause-serves g c =
    worn_serves (g.B.Board.sight c.args.board.now) c.args.x.now c.args.user c.args.on c.in-Some.row.now (sym c.in-Some.ensures.same)
    c.in-Some-find_entry.opened.now (sym (c.in-Some-find_entry.ensures.same ∙ ap (λ (l : List Opened). entry_of l c.args.user) c.deref.ensures.value))
    (sym c.if-not-differs.ensures.same) (sym c.sequence.ensures.same ∙ c.if-sequence-eq18446744073709551615.true) c.requires.can

pub returns-then-sequence-eq18446744073709551615-clause-refuses : goal.returns-then-sequence-eq18446744073709551615-clause-refuses
returns-then-sequence-eq18446744073709551615-clause-refuses g c =
    worn_refuses (g.B.Board.sight c.args.board.now) c.args.x.now c.args.user c.args.on c.in-Some.row.now (sym c.in-Some.ensures.same)
    c.in-Some-find_entry.opened.now (sym (c.in-Some-find_entry.ensures.same ∙ ap (λ (l : List Opened). entry_of l c.args.user) c.deref.ensures.value))
    (sym c.if-not-differs.ensures.same) (sym c.sequence.ensures.same ∙ c.if-sequence-eq18446744073709551615.true)

pub returns-in_default-row_with_pin-clause-serves : goal.returns-in_default-row_with_pin-clause-serves
returns-in_default-row_with_pin-clause-serves g c =
    lacking (g.B.Board.sight c.args.board.now) c.args.x.now _ (turned c.args.x.now.slots (command.AutoPin c.args.user c.args.on)) Always
    (record { slots = refl; boot = refl; settings = refl; named = refl; retired = refl }) refl

pub returns-in_default-row_with_pin-clause-refuses : goal.returns-in_default-row_with_pin-clause-refuses
returns-in_default-row_with_pin-clause-refuses g c =
    goes_on_refuses (g.B.Board.sight c.args.board.now) c.args.x.now c.args.user c.args.on c.in-Some.row.now (sym c.in-Some.ensures.same)
    c.in-Some-find_entry.opened.now (sym (c.in-Some-find_entry.ensures.same ∙ ap (λ (l : List Opened). entry_of l c.args.user) c.deref.ensures.value))
    (sym c.if-not-differs.ensures.same) (λ last. c.if-sequence-eq18446744073709551615.false (c.sequence.ensures.same ∙ last)) _ _ _ tt

pub put_row-requires : goal.put_row-requires
put_row-requires g c = record {
  may = subst (λ (next : UserRow). MayChange c.args.x.now.settings.settled.rec (PutRow next)) (sym c.in-Ok.ensures.same)
      (pin_may c.args.x.now.settings.settled.rec c.in-Some.ensures.kept c.args.user c.in-Some.row.now (sym c.in-Some.ensures.same) c.args.on c.shown_pin-pin.result c.shown_pin-pin.ensures.rule);
}

pub returns-in_default-put_row-clause-serves : goal.returns-in_default-put_row-clause-serves
returns-in_default-put_row-clause-serves g c =
    lacking (g.B.Board.sight c.args.board.now) c.args.x.now _ (turned c.args.x.now.slots (command.AutoPin c.args.user c.args.on)) Always
    (record { slots = refl; boot = refl; settings = refl; named = refl; retired = refl }) refl

pub returns-in_default-put_row-clause-refuses : goal.returns-in_default-put_row-clause-refuses
returns-in_default-put_row-clause-refuses g c =
    goes_on_refuses (g.B.Board.sight c.args.board.now) c.args.x.now c.args.user c.args.on c.in-Some.row.now (sym c.in-Some.ensures.same)
    c.in-Some-find_entry.opened.now (sym (c.in-Some-find_entry.ensures.same ∙ ap (λ (l : List Opened). entry_of l c.args.user) c.deref.ensures.value))
    (sym c.if-not-differs.ensures.same) (λ last. c.if-sequence-eq18446744073709551615.false (c.sequence.ensures.same ∙ last)) _ _ _ tt

pub perform-requires-clause-named : goal.perform-requires-clause-named
perform-requires-clause-named g c =
    pin_named c.args.x.now c.in-Ok-put_row.work c.args.user c.in-Some.row.now (sym c.in-Some.ensures.same) c.args.on c.shown_pin-pin.result c.in-Some.ensures.kept
    (subst (λ (next : UserRow). PutsRow c.args.x.now.settings next c.in-Ok-put_row.work) c.in-Ok.ensures.same c.in-Ok-put_row.ensures.puts)
    (g.B.Board.sight c.args.board.now) c.requires.can

pub perform-requires-clause-waits : goal.perform-requires-clause-waits
perform-requires-clause-waits g c =
    pin_waits c.args.x.now c.in-Ok-put_row.work c.args.user c.in-Some.row.now (sym c.in-Some.ensures.same) c.args.on c.shown_pin-pin.result c.in-Some.ensures.kept
    (subst (λ (next : UserRow). PutsRow c.args.x.now.settings next c.in-Ok-put_row.work) c.in-Ok.ensures.same c.in-Ok-put_row.ensures.puts)
    c.requires.can.waits

pub perform-requires-clause-left : goal.perform-requires-clause-left
perform-requires-clause-left g c = λ told.
    pin_left c.args.x.now c.in-Ok-put_row.work c.args.user c.in-Some.row.now (sym c.in-Some.ensures.same) c.args.on c.shown_pin-pin.result c.in-Some.ensures.kept
    (subst (λ (next : UserRow). PutsRow c.args.x.now.settings next c.in-Ok-put_row.work) c.in-Ok.ensures.same c.in-Ok-put_row.ensures.puts)
    (c.commits_touch_settings_files_alone.ensures c.args.x.now.settings c.in-Ok-put_row.work.commit.to c.in-Ok-put_row.work.commit.actions c.in-Ok-put_row.ensures.puts.commit)
    (g.B.Board.sight c.args.board.now).world (c.requires.can.numbers told) (c.requires.can.apart told) (c.requires.can.retired told)

pub returns-clause-serves : goal.returns-clause-serves
returns-clause-serves g c =
    c.perform.ensures.serves (turned c.args.x.now.slots (command.AutoPin c.args.user c.args.on))
    (pin_commits (g.B.Board.sight c.args.board.now) c.args.x.now c.in-Ok-put_row.work c.args.user c.in-Some.row.now (sym c.in-Some.ensures.same) c.args.on c.shown_pin-pin.result c.in-Some.ensures.kept
    (subst (λ (next : UserRow). PutsRow c.args.x.now.settings next c.in-Ok-put_row.work) c.in-Ok.ensures.same c.in-Ok-put_row.ensures.puts)
    (c.commits_touch_settings_files_alone.ensures c.args.x.now.settings c.in-Ok-put_row.work.commit.to c.in-Ok-put_row.work.commit.actions c.in-Ok-put_row.ensures.puts.commit)
    c.in-Some-find_entry.opened.now (sym (c.in-Some-find_entry.ensures.same ∙ ap (λ (l : List Opened). entry_of l c.args.user) c.deref.ensures.value))
    (sym c.if-not-differs.ensures.same) c.shown_pin-pin.ensures.same c.shown_pin-pin.ensures.rule c.in-Ok-put_row.ensures.kept)

pub returns-clause-refuses : goal.returns-clause-refuses
returns-clause-refuses g c =
    goes_on_refuses (g.B.Board.sight c.args.board.now) c.args.x.now c.args.user c.args.on c.in-Some.row.now (sym c.in-Some.ensures.same)
    c.in-Some-find_entry.opened.now (sym (c.in-Some-find_entry.ensures.same ∙ ap (λ (l : List Opened). entry_of l c.args.user) c.deref.ensures.value))
    (sym c.if-not-differs.ensures.same) c.in-Ok-put_row.ensures.kept _ _ _ c.perform.ensures.fine
