use Rattle.std.proofs.Common.{ap, ◌∙◌}
use Rattle.ls_record.specs.Rows.{Rec}
use Rattle.ls_opening.specs.Walking.{Walked}
use Rattle.ls_opening.proofs.WalkLemmas.{found}
use Rattle.ls_opening.proofs.opening.first_foreign.Goals as goal

pub returns : goal.returns
returns g c = record {
  sees = found (g.B.Board.sight c.args.board.now) (g.B.Board.sight c.pass_rows.new.board) c.args.holder.now c.slots-slots.result c.holder.inside.armed c.as_slice.result.now c.start.result c.in_ok-walk.walk c.walk.inside.foreign
      (λ told. c.slots-slots.ensures ∙ g.met.B.Board.slots_are_told c.args.board.now told) (ap (λ (r : Rec). r.armed) c.holder.view_is) (c.as_slice.ensures.same ∙ ap (λ (r : Rec). r.users) c.holder.view_is)
      c.start.ensures.start (ap (λ (s : Walked). s.foreign) c.walk.view_is) c.in_ok-walk.ensures.sees;
}
