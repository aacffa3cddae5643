use Rattle.std.proofs.Common.{◌∙◌, ap, Ok}
use Rattle.ls_board.specs.declared.action.Answer.{Answer}
use Rattle.ls_protector.proofs.DraftLemmas.{sign_done, sign_failed}
use Rattle.ls_protector.proofs.drafting.sign_by.Goals as goal

pub returns-in-Ok-Handle : goal.returns-in-Ok-Handle
returns-in-Ok-Handle g c = record {
  sees = sign_done (g.B.Board.sight c.args.board.now) (g.B.Board.sight c.ready.new.self) (g.B.Board.sight c.act.new.self) _ _ c.ready.result c.ready.ensures c.act.result c.act.new.out.items
      c.args.sid c.args.salt c.args.password.now c.args.sign.now c.requires.signs c.act.ensures c.in-Ok-Handle.handle (c.in-Ok-Handle.is ∙ ap (λ (a : Answer). Ok a) c.in-Ok-Handle.field-0-is);
}

pub returns : goal.returns
returns g c = record {
  sees = sign_failed (g.B.Board.sight c.args.board.now) (g.B.Board.sight c.ready.new.self) (g.B.Board.sight c.act.new.self) _ _ c.ready.result c.ready.ensures c.act.result c.act.new.out.items
      c.args.sid c.args.salt c.args.password.now c.args.sign.now c.requires.signs c.act.ensures c.in-Err.fault c.in-Err.is;
}
