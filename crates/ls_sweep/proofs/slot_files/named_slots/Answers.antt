use Rattle.std.proofs.Common.{Ok, ap, ◌∙◌}
use Rattle.ls_record.specs.Rows.{Rec}
use Rattle.ls_sweep.proofs.NamedSlotLemmas.{all_slots}
use Rattle.ls_sweep.proofs.slot_files.named_slots.Goals as goal

pub returns : goal.returns
returns g c = record {
  sees = all_slots (g.B.Board.sight c.args.board.now) (g.B.Board.sight c.pass_rows.new.board) c.args.holder.now c.slots-weaver.result c.holder.inside.armed c.as_slice.result.now c.new.result (Ok c.in_ok-slots.slots)
      (λ told. c.slots-weaver.ensures ∙ g.met.B.Board.slots_are_told c.args.board.now told) (ap (λ (r : Rec). r.armed) c.holder.view_is) (c.as_slice.ensures.same ∙ ap (λ (r : Rec). r.users) c.holder.view_is)
      c.new.ensures.none c.in_ok-slots.ensures.sees;
}
