use Rattle.std.proofs.lemmas.Result.{on_ok_weaker}
use Rattle.ls_fixtures.proofs.RoomLemmas.{can_run, ran, rose_since}
use Rattle.ls_fixtures.proofs.rooms.run_with_room.Goals as goal

pub run_plan-requires : goal.run_plan-requires
run_plan-requires g c =
    can_run (g.B.Board.sight c.args.board.now) (g.B.Board.sight c.ready.new.self) c.ready.ensures.same c.args.plan.now c.in_ok-ready.ensures.room.0 c.in_ok-ready.ensures.room.1
    c.weight-actions.ensures.actions c.weight-actions.ensures.bytes c.requires.sound c.requires.applies

pub returns : goal.returns
returns g c = record {
  done = λ told.
      on_ok_weaker c.run_plan.result (ran (g.B.Board.sight c.args.board.now) (g.B.Board.sight c.ready.new.self) c.ready.ensures.same c.args.plan.now (g.B.Board.sight c.run_plan.new.board) told)
      c.run_plan.ensures.done;
  complete = λ none.
      c.run_plan.ensures.complete (λ part rose. none part (rose_since (g.B.Board.sight c.args.board.now) (g.B.Board.sight c.ready.new.self) c.ready.ensures.same part rose));
}
