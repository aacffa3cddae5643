use Rattle.std.proofs.Common.{◌∷◌, []}
use Rattle.ls_board.specs.declared.action.Action.TheVariants.{Sync}
use Rattle.ls_formats.specs.declared.parts.Parts.{Parts}
use Rattle.ls_protector.specs.Parts.{reach_of_names}
use Rattle.ls_exchange.proofs.TurnLemmas.{call_ran, call_broke}
use Rattle.ls_exchange.proofs.staging.settle_one.Goals as goal

pub returns-in-Ok-clause-runs : goal.returns-in-Ok-clause-runs
returns-in-Ok-clause-runs g c =
    call_ran (g.B.Board.sight c.args.board.now) (g.B.Board.sight c.settle.new.board) (Sync ∷ []) (reach_of_names []) c.settle.ensures.but c.settle.ensures.crash
    {T = Parts} c.in-Ok.one c.in-Ok.ensures.did c.in-Ok.ensures.keeps

pub returns-in-Err-clause-runs : goal.returns-in-Err-clause-runs
returns-in-Err-clause-runs g c =
    call_broke (g.B.Board.sight c.args.board.now) (g.B.Board.sight c.settle.new.board) (Sync ∷ []) (reach_of_names []) c.settle.ensures.but c.settle.ensures.crash
    {T = Parts} c.in-Err.part c.in-Err.ensures.failed c.in-Err.ensures.keeps
