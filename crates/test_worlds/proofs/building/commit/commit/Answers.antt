use Rattle.test_worlds.proofs.building.commit.commit.Goals as goal

pub change-requires-clause-before : goal.change-requires-clause-before
change-requires-clause-before g c = c.requires.sound (g.B.Board.sight c.args.board.now).slots
