use Rattle.ls_adding.proofs.AddingLemmas.{adding_quiet, adding_readies}
use Rattle.ls_adding.proofs.add.add_user.Goals as goal

pub carry_out-requires-clause-quiet : goal.carry_out-requires-clause-quiet
carry_out-requires-clause-quiet g c = λ told. adding_quiet (g.B.Board.sight c.args.board.now).world c.args.settings.now c.args.work g.user (c.requires.1.1.1 told)

pub returns-clause-crash : goal.returns-clause-crash
returns-clause-crash g c = λ told v was.
    c.carry_out.ensures.crash told v _ was (adding_readies (g.B.Board.sight c.args.board.now).world c.args.settings.now c.args.work g.user (c.requires.1.1.1 told) v was)

pub returns-clause-done : goal.returns-clause-done
returns-clause-done g c = λ told v was.
    c.carry_out.ensures.done told _ (adding_readies (g.B.Board.sight c.args.board.now).world c.args.settings.now c.args.work g.user (c.requires.1.1.1 told) v was)
