use Rattle.std.proofs.Common.{List, refl, sym, ap, subst}
use Rattle.ls_settings.specs.Commits.{IsCommit}
use Rattle.ls_settings.specs.Loaded.{Loaded}
use Rattle.ls_turn.specs.declared.session.Pending.{Pending}
use Rattle.ls_turn.specs.declared.session.Session.{Session}
use Rattle.ls_turn.specs.Waiting.{CanWait}
use Rattle.ls_removals.proofs.ForgettingLemmas.{behind_lost, has_lost}
use Rattle.ls_removals.proofs.letting.let_user_go.Goals as goal

pub let_go-requires : goal.let_go-requires
let_go-requires g c = λ κs le.
    let y : Session = record c.args.x.now { opened = c.take_out.new.opened; pending = c.drop_waiting.new.pending; captured = c.take_out-2.new.opened } in
    let lost = has_lost g.before c.args.x.now y c.requires.1.0 refl c.args.user c.take_out.ensures.same c.drop_waiting.ensures.same c.take_out-2.ensures.same in
    let commit = c.args.planned.commit in (
      le,
      (
        c.requires.1.1.0,
        (
          behind_lost g.before c.args.x.now y c.requires.1.0 refl,
          (
            c.requires.1.1.1.0,
            (
              subst (λ (z : Loaded). IsCommit z commit.to commit.actions) (sym (ap (λ (z : Session). z.settings) c.requires.1.0)) c.requires.1.1.1.1.0,
              (c.requires.1.1.1.1.1.0, subst (λ (l : List Pending). CanWait commit.to.settled.rec.users l) (sym lost.pending) c.requires.1.1.1.1.1.1),
            ),
          ),
        ),
      ),
    )

pub returns-clause-serves : goal.returns-clause-serves
returns-clause-serves g c = λ turn all.
    let y : Session = record c.args.x.now { opened = c.take_out.new.opened; pending = c.drop_waiting.new.pending; captured = c.take_out-2.new.opened } in
    c.let_go.ensures.serves turn
    (all y (has_lost g.before c.args.x.now y c.requires.1.0 refl c.args.user c.take_out.ensures.same c.drop_waiting.ensures.same c.take_out-2.ensures.same))
