use Rattle.std.proofs.Common.{inl, refl}
use Rattle.ls_weaver.specs.declared.slot.SlotRead.TheVariants.{Value as SlotValue, Wrong as SlotWrong, Throttled as SlotThrottled}
use Rattle.ls_board.specs.Effect.{read_answer}
use Rattle.ls_chain.proofs.AskLemmas.{asked_ok, asked_err}
use Rattle.ls_chain.proofs.asking.ask_slot.Goals as goal

pub returns-in-Ok-Value : goal.returns-in-Ok-Value
returns-in-Ok-Value g c = let h = c.in-Ok-Value in record {
  asks = asked_ok read_answer (g.B.Board.sight c.args.board.now) (g.B.Board.sight c.act.new.self) _ c.act.new.out.items (λ w image left. (w, inl refl, left))
      h.field-0 (SlotValue h.value) h.field-0-is h.ensures.shape.1 h.ensures;
}

pub returns-in-Ok-Wrong : goal.returns-in-Ok-Wrong
returns-in-Ok-Wrong g c = let h = c.in-Ok-Wrong in record {
  asks = asked_ok read_answer (g.B.Board.sight c.args.board.now) (g.B.Board.sight c.act.new.self) _ c.act.new.out.items (λ w image left. (w, inl refl, left))
      h.field-0 (SlotWrong h.rest) h.field-0-is h.ensures.shape.1 h.ensures;
}

pub returns-in-Ok-Throttled : goal.returns-in-Ok-Throttled
returns-in-Ok-Throttled g c = let h = c.in-Ok-Throttled in record {
  asks = asked_ok read_answer (g.B.Board.sight c.args.board.now) (g.B.Board.sight c.act.new.self) _ c.act.new.out.items (λ w image left. (w, inl refl, left))
      h.field-0 (SlotThrottled h.rest) h.field-0-is h.ensures.shape.1 h.ensures;
}

pub returns-in-Err-Failed : goal.returns-in-Err-Failed
returns-in-Err-Failed g c = let h = c.in-Err-Failed in record {
  asks = asked_err read_answer (g.B.Board.sight c.args.board.now) (g.B.Board.sight c.act.new.self) _ c.act.new.out.items (λ w image left. (w, inl refl, left))
      h.part h.field-0 h.field-0-is h.ensures;
}
