use Rattle.std.proofs.Common.{refl, ◌∙◌, ap}
use Rattle.ls_settings.specs.declared.plan.Committed.{Committed}
use Rattle.ls_turn.specs.declared.session.Session.{Session}
use Rattle.ls_committing.proofs.CommittingLemmas.{new_there, left_out_there, no_room, became, change_failed, change_done}
use Rattle.ls_committing.proofs.committing.commit_change.Goals as goal

pub returns-then-is_err-clause-serves : goal.returns-then-is_err-clause-serves
returns-then-is_err-clause-serves g c = λ turn leads.
    no_room (g.B.Board.sight c.args.board.now) (g.B.Board.sight c.make_room.new.board) c.make_room.ensures.same g.before _ turn
    (ap (λ (s : Session). s.slots) c.make_room.ensures.session ∙ c.requires.1.1.0.slots)
    (ap (λ (s : Session). s.boot) c.make_room.ensures.session ∙ c.requires.1.1.0.boot) refl

pub exchange-requires-clause-fresh : goal.exchange-requires-clause-fresh
exchange-requires-clause-fresh g c =
    new_there (g.B.Board.sight c.args.board.now) (g.B.Board.sight c.make_room.new.board) c.make_room.ensures.same c.make_room.new.x.settings c.args.x.now.settings c.args.work
    (ap (λ (s : Session). s.settings) c.make_room.ensures.session) c.requires.1.1.1.1.1.1.0

pub exchange-requires-clause-left_out : goal.exchange-requires-clause-left_out
exchange-requires-clause-left_out g c =
    left_out_there (g.B.Board.sight c.args.board.now) (g.B.Board.sight c.make_room.new.board) c.make_room.ensures.same c.args.work c.requires.1.1.1.1.1.1.1.1.0

pub returns-in-Err-clause-serves : goal.returns-in-Err-clause-serves
returns-in-Err-clause-serves g c = λ turn leads.
    change_failed (g.B.Board.sight c.args.board.now) (g.B.Board.sight c.make_room.new.board) (g.B.Board.sight c.exchange.new.board) c.make_room.ensures.same g.before c.args.x.now c.args.work c.requires.1.1.0
    c.make_room.new.x.settings (ap (λ (s : Session). s.settings) c.make_room.ensures.session) turn leads
    c.exchange.ensures.rest c.requires.1.1.1.1.1.0
    (c.commits_touch_settings_files_alone.ensures c.args.x.now.settings c.args.work.commit.to c.args.work.commit.actions c.requires.1.1.1.1.0)
    {T = Committed} _ c.in-Err.part
    (ap (λ (s : Session). s.slots) c.make_room.ensures.session) (ap (λ (s : Session). s.boot) c.make_room.ensures.session) refl
    c.in-Err.ensures.failed c.in-Err.ensures.keeps c.exchange.ensures.crash

pub returns-clause-serves : goal.returns-clause-serves
returns-clause-serves g c = λ turn leads.
    change_done (g.B.Board.sight c.args.board.now) (g.B.Board.sight c.make_room.new.board) (g.B.Board.sight c.exchange.new.board) c.make_room.ensures.same g.before c.args.x.now c.args.work c.requires.1.1.0
    c.make_room.new.x.settings (ap (λ (s : Session). s.settings) c.make_room.ensures.session) turn leads
    c.exchange.ensures.rest c.requires.1.1.1.1.1.0
    (c.commits_touch_settings_files_alone.ensures c.args.x.now.settings c.args.work.commit.to c.args.work.commit.actions c.requires.1.1.1.1.0)
    c.in-Ok.ensures.did _
    (became c.args.x.now c.make_room.new.x _ c.args.work.commit.to c.args.work c.make_room.ensures.session c.make_room.ensures.named c.make_room.ensures.retired refl
    c.in-Ok.ensures.becomes c.in-Ok.ensures.bound c.in-Ok.ensures.retires)
    {T = Committed} c.in-Ok.done c.requires.1.0 c.requires.1.1.1.1.1.1.1.1.1.1.0 c.requires.1.1.1.1.1.1.1.1.1.1.1.0 c.requires.1.1.1.1.1.1.1.1.1.0 c.requires.1.1.1.1.1.1.1.1.1.1.1.1
    c.in-Ok.ensures.keeps c.exchange.ensures.crash c.in-Ok.ensures.done c.in-Ok.ensures.ready
