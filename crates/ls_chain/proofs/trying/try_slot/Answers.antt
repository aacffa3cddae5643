use Rattle.std.proofs.Common.{inl, inr, refl, sym, ap}
use Rattle.ls_board.specs.declared.action.Answer.{Answer}
use Rattle.ls_board.specs.declared.action.Action.TheVariants.{WeaverRead}
use Rattle.ls_sealing.specs.Chain.{weaver_key}
use Rattle.ls_weaver.specs.declared.slot.SlotRead.TheVariants.{Value as SlotValue}
use Rattle.ls_board.specs.Effect.{read_answer}
use Rattle.ls_chain.specs.Links.{links_at}
use Rattle.ls_chain.specs.Attempting.{slot_end, attempt_by, opened_end}
use Rattle.ls_chain.proofs.TryLemmas.{device_failed, device_opens}
use Rattle.std.proofs.Common.{Some, Ok, Err, ℕ, List, subst}
use Rattle.ls_weaver.specs.declared.slot.SlotRead.{SlotRead}
use Rattle.ls_chain.specs.Asking.{AsksDevice}
use Rattle.ls_chain.proofs.trying.try_slot.Goals as goal

pub returns-in-Ok-Value-clause-tries : goal.returns-in-Ok-Value-clause-tries
returns-in-Ok-Value-clause-tries g c =
    device_opens (WeaverRead c.args.slot (weaver_key c.args.stretched.now) c.args.moment) (record { absent = λ w. inl refl; whole = λ w. inr refl })
    (slot_end c.args.user c.args.id c.args.slot c.args.stretched.now c.args.moment) read_answer (g.B.Board.sight c.args.board.now) (g.B.Board.sight c.ready.new.self) _ _ c.ready.result c.ready.ensures (g.B.Board.sight c.ask_slot.new.board)
    (SlotValue c.in-Ok-Value.value) (subst (λ (k : List ℕ). AsksDevice (WeaverRead c.args.slot k c.args.moment) read_answer (g.B.Board.sight c.ready.new.self) (Ok (SlotValue c.in-Ok-Value.value)) (g.B.Board.sight c.ask_slot.new.board)) c.weaver_key.ensures.same
    (subst (λ (q : SlotRead). AsksDevice (WeaverRead c.args.slot c.weaver_key.result c.args.moment) read_answer (g.B.Board.sight c.ready.new.self) (Ok q) (g.B.Board.sight c.ask_slot.new.board)) c.in-Ok-Value.field-0-is c.in-Ok-Value.ensures.asks)) (g.B.Board.sight c.opened.new.board) c.opened.result
    (λ w. opened_end (links_at w c.args.user c.args.id) c.args.stretched.now (Some c.in-Ok-Value.value)) c.opened.ensures.looks
    (λ w answers. ap (λ (x : Answer). attempt_by (links_at w c.args.user c.args.id) c.args.stretched.now x) (sym answers.0))

pub returns-clause-tries : goal.returns-clause-tries
returns-clause-tries g c =
    device_failed (WeaverRead c.args.slot (weaver_key c.args.stretched.now) c.args.moment) (record { absent = λ w. inl refl; whole = λ w. inr refl })
    (slot_end c.args.user c.args.id c.args.slot c.args.stretched.now c.args.moment) read_answer (g.B.Board.sight c.args.board.now) (g.B.Board.sight c.ready.new.self) _ _ c.ready.result c.ready.ensures (g.B.Board.sight c.ask_slot.new.board)
    c.in-Err.part (subst (λ (k : List ℕ). AsksDevice (WeaverRead c.args.slot k c.args.moment) read_answer (g.B.Board.sight c.ready.new.self) (Err c.in-Err.part) (g.B.Board.sight c.ask_slot.new.board)) c.weaver_key.ensures.same c.in-Err.ensures.asks)
