use Rattle.std.proofs.Common.{refl}
use Rattle.ls_settings.specs.declared.plan.Committed.{Committed}
use Rattle.ls_turn.proofs.PerformLemmas.{work_failed, work_done}
use Rattle.ls_rebooting.proofs.RoomLemmas.{no_ready, none_made}
use Rattle.ls_rebooting.proofs.carrying.carry.Goals as goal

pub returns-in-Err-clause-serves : goal.returns-in-Err-clause-serves
returns-in-Err-clause-serves g c = λ turn leads.
    let old = g.B.Board.sight c.args.board.now in
    work_failed old old (g.B.Board.sight c.carry_out.new.board) c.args.x.now c.args.work turn leads 0 0 none_made (no_ready old)
    c.carry_out.ensures.rest {T = Committed} _ c.in-Err.part refl refl refl c.requires.quiet
    (c.commits_touch_settings_files_alone.ensures c.args.x.now.settings c.args.work.commit.to c.args.work.commit.actions c.requires.prepared)
    c.in-Err.ensures.failed c.in-Err.ensures.keeps c.carry_out.ensures.crash

pub returns-clause-serves : goal.returns-clause-serves
returns-clause-serves g c = λ turn leads.
    let old = g.B.Board.sight c.args.board.now in
    work_done old old (g.B.Board.sight c.carry_out.new.board) c.args.x.now c.args.work turn leads 0 0 none_made (no_ready old)
    c.carry_out.ensures.rest c.in-Ok.ensures.did _ refl c.in-Ok.ensures.becomes {T = Committed} c.in-Ok.done c.requires.can c.requires.named c.requires.waits c.requires.left c.requires.quiet
    (c.commits_touch_settings_files_alone.ensures c.args.x.now.settings c.args.work.commit.to c.args.work.commit.actions c.requires.prepared)
    c.in-Ok.ensures.keeps c.carry_out.ensures.crash c.in-Ok.ensures.done c.in-Ok.ensures.ready
