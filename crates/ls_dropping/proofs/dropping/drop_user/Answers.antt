use Rattle.std.proofs.Common.{◌++◌, sym, subst}
use Rattle.ls_board.specs.declared.world.World.{World}
use Rattle.ls_change.specs.Work.{next_of}
use Rattle.ls_standing.specs.Bare.{IsBare}
use Rattle.ls_dropping.specs.Dropping.{files_left}
use Rattle.std.proofs.lemmas.Result.{on_ok_weaker}
use Rattle.ls_dropping.proofs.BareLemmas.{bare_then}
use Rattle.ls_dropping.proofs.DroppingLemmas.{dropping_quiet, dropping_readies}
use Rattle.ls_dropping.proofs.dropping.drop_user.Goals as goal

pub carry_out-requires-clause-quiet : goal.carry_out-requires-clause-quiet
carry_out-requires-clause-quiet g c = λ told. dropping_quiet (g.B.Board.sight c.args.board.now).world c.args.settings.now c.args.work g.user (c.requires.1.1.1 told)

pub returns-clause-crash : goal.returns-clause-crash
returns-clause-crash g c = λ told v was.
    c.carry_out.ensures.crash told v _ was (dropping_readies (g.B.Board.sight c.args.board.now).world c.args.settings.now c.args.work g.user (c.requires.1.1.1 told) v was)

pub returns-clause-done : goal.returns-clause-done
returns-clause-done g c = λ told v was.
    c.carry_out.ensures.done told _ (dropping_readies (g.B.Board.sight c.args.board.now).world c.args.settings.now c.args.work g.user (c.requires.1.1.1 told) v was)

pub returns-clause-bare : goal.returns-clause-bare
returns-clause-bare g c = λ told start retired slots armed bare.
    on_ok_weaker c.carry_out.result (λ did. subst (λ (v : World). IsBare start v (next_of c.args.work) (retired ++ files_left g.user)) (sym (did.world told))
    (bare_then (g.B.Board.sight c.args.board.now).world c.args.settings.now c.args.work g.user (c.requires.1.1.1 told)
    (c.commits_touch_settings_files_alone.ensures c.args.settings.now c.args.work.commit.to c.args.work.commit.actions c.requires.1.1.0)
    start retired slots armed bare)) c.carry_out.ensures.did
