use Rattle.std.proofs.Common.{◌∙◌, ap}
use Rattle.std.specs.Prelude.{Err}
use Rattle.ls_protector.proofs.StepLemmas.{can_one}
use Rattle.ls_sweep.proofs.LastLemmas.{last_done, last_failed, last_has_memory}
use Rattle.ls_sweep.proofs.sweeping.act_one.Goals as goal

pub act-requires : goal.act-requires
act-requires g c = can_one (g.B.Board.sight c.args.board.now) c.args.action.now c.requires.run

pub unreachable-requires : goal.unreachable-requires
unreachable-requires g c = last_has_memory c.args.action.now c.requires.last (c.act.ensures.memory (c.in-Err-Memory.is ∙ ap Err c.in-Err-Memory.field-0-is)).0

pub returns-in-Ok : goal.returns-in-Ok
returns-in-Ok g c = record {
  steps = last_done (g.B.Board.sight c.args.board.now) (g.B.Board.sight c.act.new.self) c.args.action.now _ c.requires.last c.in-Ok.field-0 c.in-Ok.ensures;
}

pub returns-in-Err-Failed : goal.returns-in-Err-Failed
returns-in-Err-Failed g c = record {
  steps = last_failed (g.B.Board.sight c.args.board.now) (g.B.Board.sight c.act.new.self) c.args.action.now _ c.requires.last c.in-Err-Failed.part c.in-Err-Failed.field-0
      c.in-Err-Failed.field-0-is c.in-Err-Failed.ensures;
}
