use Rattle.std.proofs.Common.{◌∙◌, ap}
use Rattle.std.specs.Prelude.{Err}
use Rattle.ls_board.proofs.StepLemmas.{not_lacking}
use Rattle.ls_protector.proofs.StepLemmas.{can_one, steps_done, steps_failed}
use Rattle.ls_protector.proofs.act.act_one.Goals as goal

pub act-requires : goal.act-requires
act-requires g c = can_one (g.B.Board.sight c.args.board.now) c.args.action.now c.requires.run

pub unreachable-requires : goal.unreachable-requires
unreachable-requires g c = not_lacking c.args.action.now c.requires.planned (c.act.ensures.memory (c.in-Err-Memory.is ∙ ap Err c.in-Err-Memory.field-0-is)).0

pub returns-in-Ok : goal.returns-in-Ok
returns-in-Ok g c = record { steps = steps_done (g.B.Board.sight c.args.board.now) (g.B.Board.sight c.act.new.self) c.args.action.now _ c.requires.planned c.in-Ok.field-0 c.in-Ok.ensures }

pub returns-in-Err-Failed : goal.returns-in-Err-Failed
returns-in-Err-Failed g c = record { steps = steps_failed (g.B.Board.sight c.args.board.now) (g.B.Board.sight c.act.new.self) c.args.action.now _ c.requires.planned c.in-Err-Failed.part c.in-Err-Failed.field-0 c.in-Err-Failed.field-0-is c.in-Err-Failed.ensures }
