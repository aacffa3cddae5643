use Rattle.std.proofs.Common.{Some, Ok, sym, ap, subst}
use Rattle.ls_weaver.specs.declared.slot.SlotRead.{SlotRead}
use Rattle.ls_weaver.specs.declared.slot.SlotRead.TheVariants.{Value as SlotValue, Wrong as SlotWrong, Throttled as SlotThrottled}
use Rattle.ls_board.specs.declared.action.Answer.{Answer}
use Rattle.ls_board.specs.declared.action.Action.TheVariants.{WeaverRead}
use Rattle.ls_board.specs.Effect.{read_answer}
use Rattle.ls_chain.specs.Asking.{AsksDevice}
use Rattle.ls_chain.specs.Links.{links_at}
use Rattle.ls_chain.specs.Tokens.{token_chain}
use Rattle.ls_chain.specs.TokenAttempts.{zero_key, token_slot_end, token_by}
use Rattle.ls_chain.proofs.TryLemmas.{device_failed, device_ends, device_opens}
use Rattle.ls_chain.proofs.TokenAttemptLemmas.{slot_device}
use Rattle.ls_chain.proofs.token_attempt.try_slot.Goals as goal

pub returns-in-Ok-Value : goal.returns-in-Ok-Value
returns-in-Ok-Value g c = record {
  tries = device_opens (WeaverRead c.args.slot zero_key 0) (slot_device c.args.slot)
      (token_slot_end c.args.user c.args.id c.args.slot c.args.token.now c.args.files.now) read_answer (g.B.Board.sight c.args.board.now) (g.B.Board.sight c.ready.new.self) _ _ c.ready.result c.ready.ensures (g.B.Board.sight c.ask_slot.new.board)
      (SlotValue c.in-Ok-Value.value) (subst (λ (q : SlotRead). AsksDevice (WeaverRead c.args.slot zero_key 0) read_answer (g.B.Board.sight c.ready.new.self) (Ok q) (g.B.Board.sight c.ask_slot.new.board)) c.in-Ok-Value.field-0-is c.in-Ok-Value.ensures.asks) (g.B.Board.sight c.open_files.new.board) c.open_files.result
      (λ w. token_chain (links_at w c.args.user c.args.id) c.args.token.now c.args.files.now (Some c.in-Ok-Value.value)) c.open_files.ensures.looks
      (λ w answers. ap (λ (x : Answer). token_by (links_at w c.args.user c.args.id) c.args.token.now c.args.files.now x) (sym answers.0));
}

pub returns-in-Ok-Wrong : goal.returns-in-Ok-Wrong
returns-in-Ok-Wrong g c = record {
  tries = device_ends (WeaverRead c.args.slot zero_key 0) (slot_device c.args.slot)
      (token_slot_end c.args.user c.args.id c.args.slot c.args.token.now c.args.files.now) read_answer (g.B.Board.sight c.args.board.now) (g.B.Board.sight c.ready.new.self) _ _ c.ready.result c.ready.ensures (g.B.Board.sight c.ask_slot.new.board)
      (SlotWrong c.in-Ok-Wrong.field-0-0) (subst (λ (q : SlotRead). AsksDevice (WeaverRead c.args.slot zero_key 0) read_answer (g.B.Board.sight c.ready.new.self) (Ok q) (g.B.Board.sight c.ask_slot.new.board)) c.in-Ok-Wrong.field-0-is c.in-Ok-Wrong.ensures.asks) _ (λ p is. cc) (λ w answers. ap (λ (x : Answer). token_by (links_at w c.args.user c.args.id) c.args.token.now c.args.files.now x) (sym answers.0));
}

pub returns-in-Ok-Throttled : goal.returns-in-Ok-Throttled
returns-in-Ok-Throttled g c = record {
  tries = device_ends (WeaverRead c.args.slot zero_key 0) (slot_device c.args.slot)
      (token_slot_end c.args.user c.args.id c.args.slot c.args.token.now c.args.files.now) read_answer (g.B.Board.sight c.args.board.now) (g.B.Board.sight c.ready.new.self) _ _ c.ready.result c.ready.ensures (g.B.Board.sight c.ask_slot.new.board)
      (SlotThrottled c.in-Ok-Throttled.field-0-0) (subst (λ (q : SlotRead). AsksDevice (WeaverRead c.args.slot zero_key 0) read_answer (g.B.Board.sight c.ready.new.self) (Ok q) (g.B.Board.sight c.ask_slot.new.board)) c.in-Ok-Throttled.field-0-is c.in-Ok-Throttled.ensures.asks) _ (λ p is. cc) (λ w answers. ap (λ (x : Answer). token_by (links_at w c.args.user c.args.id) c.args.token.now c.args.files.now x) (sym answers.0));
}

pub returns : goal.returns
returns g c = record {
  tries = device_failed (WeaverRead c.args.slot zero_key 0) (slot_device c.args.slot)
      (token_slot_end c.args.user c.args.id c.args.slot c.args.token.now c.args.files.now) read_answer (g.B.Board.sight c.args.board.now) (g.B.Board.sight c.ready.new.self) _ _ c.ready.result c.ready.ensures (g.B.Board.sight c.ask_slot.new.board)
      c.in-Err.part c.in-Err.ensures.asks;
}
