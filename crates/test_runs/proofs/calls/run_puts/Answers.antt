use Rattle.test_runs.proofs.calls.run_puts.Goals as goal

pub run_with_room-requires-clause-sound : goal.run_with_room-requires-clause-sound
run_with_room-requires-clause-sound g c = c.in_ok-plan.ensures.sound (g.B.Board.sight c.args.board.now).slots
