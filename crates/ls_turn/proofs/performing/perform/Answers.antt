use Rattle.std.proofs.Common.{refl}
use Rattle.ls_settings.specs.declared.plan.Committed.{Committed}
use Rattle.ls_turn.proofs.PerformLemmas.{gave_up, too_heavy, work_failed, work_done}
use Rattle.ls_turn.specs.Serving.{Always}
use Rattle.ls_turn.proofs.performing.perform.Goals as goal

pub returns-in_default-clause-serves : goal.returns-in_default-clause-serves
returns-in_default-clause-serves g c = λ turn leads. too_heavy (g.B.Board.sight c.args.board.now) c.args.x.now _ turn refl refl refl

pub returns-then-is_err-clause-serves : goal.returns-then-is_err-clause-serves
returns-then-is_err-clause-serves g c = λ turn leads.
    gave_up (g.B.Board.sight c.args.board.now) (g.B.Board.sight c.ready.new.self) c.args.x.now _ turn Always refl refl c.in-Some.actions c.in-Some.bytes c.ready.result c.ready.ensures refl

pub returns-then-is_err-clause-untouched : goal.returns-then-is_err-clause-untouched
returns-then-is_err-clause-untouched g c = λ lacking. c.ready.ensures.same

pub returns-in-Err-clause-serves : goal.returns-in-Err-clause-serves
returns-in-Err-clause-serves g c = λ turn leads.
    work_failed (g.B.Board.sight c.args.board.now) (g.B.Board.sight c.ready.new.self) (g.B.Board.sight c.carry_out.new.board) c.args.x.now c.args.work turn leads c.in-Some.actions c.in-Some.bytes c.ready.result c.ready.ensures
    c.carry_out.ensures.rest {T = Committed} _ c.in-Err.part refl refl refl c.requires.quiet
    (c.commits_touch_settings_files_alone.ensures c.args.x.now.settings c.args.work.commit.to c.args.work.commit.actions c.requires.prepared)
    c.in-Err.ensures.failed c.in-Err.ensures.keeps c.carry_out.ensures.crash

pub returns-clause-serves : goal.returns-clause-serves
returns-clause-serves g c = λ turn leads.
    work_done (g.B.Board.sight c.args.board.now) (g.B.Board.sight c.ready.new.self) (g.B.Board.sight c.carry_out.new.board) c.args.x.now c.args.work turn leads c.in-Some.actions c.in-Some.bytes c.ready.result c.ready.ensures
    c.carry_out.ensures.rest c.in-Ok.ensures.did _ refl c.in-Ok.ensures.becomes {T = Committed} c.in-Ok.done c.requires.can c.requires.named c.requires.waits c.requires.left c.requires.quiet
    (c.commits_touch_settings_files_alone.ensures c.args.x.now.settings c.args.work.commit.to c.args.work.commit.actions c.requires.prepared)
    c.in-Ok.ensures.keeps c.carry_out.ensures.crash c.in-Ok.ensures.done c.in-Ok.ensures.ready
