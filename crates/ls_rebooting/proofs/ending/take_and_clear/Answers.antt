use Rattle.std.proofs.Common.{refl, ap}
use Rattle.ls_board.specs.declared.world.World.{World}
use Rattle.ls_turn.proofs.PerformLemmas.{gave_up}
use Rattle.ls_turn.specs.Serving.{Always}
use Rattle.ls_rebooting.specs.Ending.{clears, unarming}
use Rattle.ls_rebooting.proofs.CarryLemmas.{clears_commits, clears_named, clears_waits}
use Rattle.ls_rebooting.proofs.EndingLemmas.{clearing_serves, left_behind, quiet_behind, room_behind, told_before}
use Rattle.ls_rebooting.proofs.RoomLemmas.{behind_room, room_can}
use Rattle.ls_rebooting.proofs.TakingLemmas.{taken_can, taking_stops}
use Rattle.ls_rebooting.proofs.TurnLemmas.{unarming_vault}
use Rattle.ls_rebooting.proofs.ending.take_and_clear.Goals as goal

pub returns-in_default-clause-serves : goal.returns-in_default-clause-serves
returns-in_default-clause-serves g c =
    gave_up (g.B.Board.sight c.args.board.now) (g.B.Board.sight c.make_room.new.board) c.args.x.now _ unarming Always refl refl 0 0 c.make_room.result c.make_room.ensures.readies refl

pub returns-in-Err-clause-serves : goal.returns-in-Err-clause-serves
returns-in-Err-clause-serves g c =
    let mid = g.B.Board.sight c.make_room.new.board in
    let new = g.B.Board.sight c.empty_cell.new.board in
    behind_room (g.B.Board.sight c.args.board.now) mid 0 0 c.make_room.result c.make_room.ensures.readies c.args.x.now new _ unarming _
    (taking_stops mid new c.args.x.now _ unarming c.in-Err.part c.in-Err.ensures.steps (λ s. unarming_vault s mid.world) refl refl refl)

pub carry-requires-clause-can : goal.carry-requires-clause-can
carry-requires-clause-can g c = taken_can _ _ c.args.x.now c.in_default-empty_cell.ensures.steps.did (room_can _ _ 0 0 c.make_room.result c.make_room.ensures.readies c.args.x.now c.requires.can)

pub carry-requires-clause-room : goal.carry-requires-clause-room
carry-requires-clause-room g c = room_behind _ _ c.args.x.now c.args.work c.requires.ends c.in-Ok.ensures.room c.in_default-empty_cell.ensures.steps.did

pub carry-requires-clause-quiet : goal.carry-requires-clause-quiet
carry-requires-clause-quiet g c = quiet_behind (g.B.Board.sight c.empty_cell.new.board) c.args.x.now c.args.work
    (taken_can _ _ c.args.x.now c.in_default-empty_cell.ensures.steps.did (room_can _ _ 0 0 c.make_room.result c.make_room.ensures.readies c.args.x.now c.requires.can)) c.requires.ends
    (c.commits_touch_settings_files_alone.ensures c.args.x.now.settings c.args.work.commit.to c.args.work.commit.actions c.requires.ends.clears.commit)

pub carry-requires-clause-named : goal.carry-requires-clause-named
carry-requires-clause-named g c = clears_named c.args.x.now c.args.work c.requires.ends (g.B.Board.sight c.args.board.now) c.requires.can

pub carry-requires-clause-waits : goal.carry-requires-clause-waits
carry-requires-clause-waits g c = clears_waits c.args.x.now c.args.work c.requires.ends (g.B.Board.sight c.args.board.now) c.requires.can

pub carry-requires-clause-left : goal.carry-requires-clause-left
carry-requires-clause-left g c = left_behind (g.B.Board.sight c.empty_cell.new.board) c.args.x.now c.args.work
    (taken_can _ _ c.args.x.now c.in_default-empty_cell.ensures.steps.did (room_can _ _ 0 0 c.make_room.result c.make_room.ensures.readies c.args.x.now c.requires.can)) c.requires.ends
    (c.commits_touch_settings_files_alone.ensures c.args.x.now.settings c.args.work.commit.to c.args.work.commit.actions c.requires.ends.clears.commit)

pub returns-clause-serves : goal.returns-clause-serves
returns-clause-serves g c =
    let old = g.B.Board.sight c.args.board.now in
    let mid = g.B.Board.sight c.make_room.new.board in
    let empty = g.B.Board.sight c.empty_cell.new.board in
    let new = g.B.Board.sight c.carry.new.board in
    let commits = c.commits_touch_settings_files_alone.ensures c.args.x.now.settings c.args.work.commit.to c.args.work.commit.actions c.requires.ends.clears.commit in
    let steps = c.in_default-empty_cell.ensures.steps in
    behind_room old mid 0 0 c.make_room.result c.make_room.ensures.readies c.args.x.now new c.carry.new.x unarming c.carry.result
    (clearing_serves mid empty new c.args.x.now c.carry.new.x c.in_default-empty_cell.field-0 c.args.work c.carry.result c.requires.ends c.requires.kept steps
    (c.carry.ensures.serves clears (clears_commits empty c.args.x.now c.args.work c.requires.ends commits (λ told. ap (λ (w : World). w.cell) (steps.did.world (told_before mid empty steps.did told))))))
