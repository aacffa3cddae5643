use Rattle.std.proofs.Common.{◌∙◌, List, [], sym, subst, ap}
use Rattle.std.specs.Prelude.{Ok}
use Rattle.std.specs.List.{AllZip}
use Rattle.ls_formats.specs.declared.parts.Parts.{Parts}
use Rattle.ls_record.specs.Rows.{Rec}
use Rattle.ls_turn.specs.Serving.{IsKeptAs}
use Rattle.ls_session.proofs.KnownLemmas.{kept_there, parts_there, not_there, never}
use Rattle.ls_session.proofs.checking.keep_all.Goals as goal

pub returns-in-Ok-kept-clause-named : goal.returns-in-Ok-kept-clause-named
returns-in-Ok-kept-clause-named g c = λ told. parts_there (g.B.Board.sight c.args.board.now).world c.args.holder.now c.slots-slots.result c.as_slice.result.now (Ok c.new.result) c.in-Ok.kept c.in-Ok-kept.parts
    (c.slots-slots.ensures ∙ g.met.B.Board.slots_are_told c.args.board.now told) (c.as_slice.ensures.same ∙ ap (λ (r : Rec). r.users) c.holder.view_is) (ap Ok c.new.ensures.none) (c.requires.none told) (c.in-Ok.ensures.sees.finds told) c.in-Ok-kept.is

pub returns-in-Ok-kept-clause-kept : goal.returns-in-Ok-kept-clause-kept
returns-in-Ok-kept-clause-kept g c = kept_there (g.B.Board.sight c.args.board.now).slots c.slots-slots.result c.as_slice.result.now c.args.holder.now c.in-Ok.kept c.in-Ok-kept.parts
    c.slots-slots.ensures (c.as_slice.ensures.same ∙ ap (λ (r : Rec). r.users) c.holder.view_is) c.in-Ok-kept.is
    (c.in-Ok.ensures.zip [] (subst (λ (l : List Parts). AllZip (IsKeptAs c.slots-slots.result) [] l) (sym c.new.ensures.none) tt))

pub returns-in-Err-kept-clause-checks : goal.returns-in-Err-kept-clause-checks
returns-in-Err-kept-clause-checks g c =
    never c.args.holder.now (g.B.Board.sight c.args.board.now) (g.B.Board.sight c.keep_rows.new.board) _ c.in-Ok.kept c.refused.result _ _ c.refused.ensures.either c.in-Ok.ensures.sees
    (λ told. not_there (g.B.Board.sight c.args.board.now).world c.args.holder.now c.slots-slots.result c.as_slice.result.now (Ok c.new.result) c.in-Ok.kept c.in-Err-kept.name
    (c.slots-slots.ensures ∙ g.met.B.Board.slots_are_told c.args.board.now told) (c.as_slice.ensures.same ∙ ap (λ (r : Rec). r.users) c.holder.view_is) (ap Ok c.new.ensures.none) (c.requires.none told) (c.in-Ok.ensures.sees.finds told) c.in-Err-kept.is)
