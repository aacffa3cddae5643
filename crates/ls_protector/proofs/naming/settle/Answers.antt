use Rattle.ls_protector.proofs.StageLemmas.{synced_but, synced_stands}
use Rattle.ls_protector.proofs.naming.settle.Goals as goal

pub returns-in-Ok-clause-stands : goal.returns-in-Ok-clause-stands
returns-in-Ok-clause-stands g c = synced_stands (g.B.Board.sight c.args.board.now) (g.B.Board.sight c.sync.new.board) c.sync.result c.sync.ensures.steps

pub returns-in-Err-clause-but : goal.returns-in-Err-clause-but
returns-in-Err-clause-but g c = synced_but (g.B.Board.sight c.args.board.now) (g.B.Board.sight c.sync.new.board) c.sync.result c.sync.ensures.steps

pub returns-in-Err-clause-stands : goal.returns-in-Err-clause-stands
returns-in-Err-clause-stands g c = synced_stands (g.B.Board.sight c.args.board.now) (g.B.Board.sight c.sync.new.board) c.sync.result c.sync.ensures.steps
