use Rattle.std.proofs.Common.{ℕ, nat_lt, List, ◌∙◌, subst}
use Rattle.ls_naming.specs.Named.{NamesEnrolled}
use Rattle.ls_sweep.specs.Sifted.{AreThose}
use Rattle.ls_sweep.proofs.LeftLemmas.{enrolled_left}
use Rattle.ls_sweep.proofs.sift.left_enrolled.Goals as goal

pub returns-in-Ok : goal.returns-in-Ok
returns-in-Ok g c = record {
  reads = enrolled_left (g.B.Board.sight c.args.board.now) (g.B.Board.sight c.listed_enrolled.new.board) c.args.holder.now c.slots-weaver.result
      (λ told. c.slots-weaver.ensures ∙ g.met.B.Board.slots_are_told c.args.board.now told) c.in_ok-ids.ids c.in-Ok.ids c.in_ok-ids.ensures.sees
      (subst (λ (l : List ℕ). AreThose (λ id. ¬ NamesEnrolled (nat_lt 0 c.slots-weaver.result) c.args.holder.now id) l c.in-Ok.ids) c.as_slice.ensures.same c.in-Ok.ensures.those);
}
