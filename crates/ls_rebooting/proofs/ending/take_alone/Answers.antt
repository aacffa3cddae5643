use Rattle.std.proofs.Common.{refl}
use Rattle.ls_turn.proofs.PerformLemmas.{gave_up}
use Rattle.ls_turn.specs.Serving.{Always}
use Rattle.ls_rebooting.specs.Ending.{unarming}
use Rattle.ls_rebooting.proofs.EndingLemmas.{alone_serves}
use Rattle.ls_rebooting.proofs.TakingLemmas.{taking_stops}
use Rattle.ls_rebooting.proofs.TurnLemmas.{unarming_vault}
use Rattle.ls_rebooting.proofs.RoomLemmas.{behind_room, room_can}
use Rattle.ls_rebooting.proofs.ending.take_alone.Goals as goal

pub returns-then-is_err-clause-serves : goal.returns-then-is_err-clause-serves
returns-then-is_err-clause-serves g c =
    gave_up (g.B.Board.sight c.args.board.now) (g.B.Board.sight c.ready.new.self) c.args.x.now _ unarming Always refl refl 1 0 c.ready.result c.ready.ensures refl

pub returns-in-Err-clause-serves : goal.returns-in-Err-clause-serves
returns-in-Err-clause-serves g c =
    let mid = g.B.Board.sight c.ready.new.self in
    let new = g.B.Board.sight c.empty_cell.new.board in
    behind_room (g.B.Board.sight c.args.board.now) mid 1 0 c.ready.result c.ready.ensures c.args.x.now new _ unarming _
    (taking_stops mid new c.args.x.now _ unarming c.in-Err.part c.in-Err.ensures.steps (λ s. unarming_vault s mid.world) refl refl refl)

pub returns-clause-serves : goal.returns-clause-serves
returns-clause-serves g c =
    let old = g.B.Board.sight c.args.board.now in
    let mid = g.B.Board.sight c.ready.new.self in
    let new = g.B.Board.sight c.empty_cell.new.board in
    behind_room old mid 1 0 c.ready.result c.ready.ensures c.args.x.now new c.args.x.now unarming _
    (alone_serves mid new c.args.x.now c.in_default.field-0 (room_can old mid 1 0 c.ready.result c.ready.ensures c.args.x.now c.requires.can) c.requires.armed c.requires.worn
    c.in_default.ensures.steps)
