use Rattle.ls_fixtures.proofs.RoomLemmas.{can_act, moved}
use Rattle.ls_fixtures.proofs.rooms.act_with_room.Goals as goal

pub act-requires : goal.act-requires
act-requires g c =
    can_act (g.B.Board.sight c.args.board.now) (g.B.Board.sight c.ready.new.self) c.ready.ensures.same c.args.action.now c.in_ok-ready.ensures.room.0 c.in_ok-ready.ensures.room.1 c.weight.ensures.bytes
    c.requires.sound c.requires.applies

pub returns : goal.returns
returns g c = record {
  moves =
      moved (g.B.Board.sight c.args.board.now) (g.B.Board.sight c.ready.new.self) c.ready.ensures.same c.args.action.now c.act.result c.act.new.out.items (g.B.Board.sight c.act.new.self) c.act.ensures;
}
