use Rattle.ls_formats.specs.declared.parts.Parts.{Parts}
use Rattle.ls_protector.specs.Parts.{reach_of_parts}
use Rattle.ls_exchange.proofs.TurnLemmas.{call_ran, call_broke}
use Rattle.ls_exchange.proofs.staging.stage_one.Goals as goal

pub returns-in-Ok-clause-runs : goal.returns-in-Ok-clause-runs
returns-in-Ok-clause-runs g c =
    call_ran (g.B.Board.sight c.args.board.now) (g.B.Board.sight c.stage.new.board) c.args.draft.plan (reach_of_parts c.args.draft.parts) c.stage.ensures.but c.stage.ensures.crash
    {T = Parts} c.in-Ok.one c.in-Ok.ensures.did c.in-Ok.ensures.keeps

pub returns-in-Err-clause-runs : goal.returns-in-Err-clause-runs
returns-in-Err-clause-runs g c =
    call_broke (g.B.Board.sight c.args.board.now) (g.B.Board.sight c.stage.new.board) c.args.draft.plan (reach_of_parts c.args.draft.parts) c.stage.ensures.but c.stage.ensures.crash
    {T = Parts} c.in-Err.part c.in-Err.ensures.failed c.in-Err.ensures.keeps
