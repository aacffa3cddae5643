use Rattle.std.proofs.Common.{inl, refl}
use Rattle.ls_chain.specs.declared.asking.HandleAnswer.TheVariants.{Accepted as Known, Wrong as Missed, Throttled as Resting, Unknown as Strange}
use Rattle.ls_chain.specs.Asking.{verify_of}
use Rattle.ls_chain.proofs.AskLemmas.{asked_ok, asked_err}
use Rattle.ls_chain.proofs.asking.ask_handle.Goals as goal

pub returns-in-Ok-Accepted : goal.returns-in-Ok-Accepted
returns-in-Ok-Accepted g c = let h = c.in-Ok-Accepted in record {
  asks = asked_ok verify_of (g.B.Board.sight c.args.board.now) (g.B.Board.sight c.act.new.self) _ c.act.new.out.items (λ w image left. (w, inl refl, left))
      h.field-0 (Known h.sid) h.field-0-is h.ensures.shape.1 h.ensures;
}

pub returns-in-Ok-Wrong : goal.returns-in-Ok-Wrong
returns-in-Ok-Wrong g c = let h = c.in-Ok-Wrong in record {
  asks = asked_ok verify_of (g.B.Board.sight c.args.board.now) (g.B.Board.sight c.act.new.self) _ c.act.new.out.items (λ w image left. (w, inl refl, left))
      h.field-0 (Missed h.rest) h.field-0-is h.ensures.shape.1 h.ensures;
}

pub returns-in-Ok-Throttled : goal.returns-in-Ok-Throttled
returns-in-Ok-Throttled g c = let h = c.in-Ok-Throttled in record {
  asks = asked_ok verify_of (g.B.Board.sight c.args.board.now) (g.B.Board.sight c.act.new.self) _ c.act.new.out.items (λ w image left. (w, inl refl, left))
      h.field-0 (Resting h.rest) h.field-0-is h.ensures.shape.1 h.ensures;
}

pub returns-in-Ok-Unknown : goal.returns-in-Ok-Unknown
returns-in-Ok-Unknown g c = let h = c.in-Ok-Unknown in record {
  asks = asked_ok verify_of (g.B.Board.sight c.args.board.now) (g.B.Board.sight c.act.new.self) _ c.act.new.out.items (λ w image left. (w, inl refl, left))
      h.field-0 (Strange) h.field-0-is h.ensures.shape.1 h.ensures;
}

pub returns-in-Err-Failed : goal.returns-in-Err-Failed
returns-in-Err-Failed g c = let h = c.in-Err-Failed in record {
  asks = asked_err verify_of (g.B.Board.sight c.args.board.now) (g.B.Board.sight c.act.new.self) _ c.act.new.out.items (λ w image left. (w, inl refl, left))
      h.part h.field-0 h.field-0-is h.ensures;
}
