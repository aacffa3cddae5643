use Rattle.std.proofs.Common.{ℕ, Option, replicate, sym, subst}
use Rattle.ls_sealing.specs.Building.{slot_writes}
use Rattle.ls_protector.specs.Steps.{Steps}
use Rattle.ls_protector.proofs.retiring.blank_slot.Goals as goal

pub returns-in-Some : goal.returns-in-Some
returns-in-Some g c = record {
  steps =
      subst (λ (slot : Option ℕ). Steps {T = Unit {0}} (g.B.Board.sight c.args.board.now) (slot_writes slot (replicate 16 0) (replicate 16 0)) c.write_zeros.result (g.B.Board.sight c.write_zeros.new.board))
      (sym c.in-Some.is) c.write_zeros.ensures.steps;
}
