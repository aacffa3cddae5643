use Rattle.std.proofs.Common.{refl, sym, ◌∙◌}
use Rattle.ls_script.specs.declared.command.Command.TheVariants as command
use Rattle.ls_turn.specs.Serving.{turned, Always}
use Rattle.ls_turn.proofs.StillLemmas.{lacking}
use Rattle.ls_removals.proofs.EndingLemmas.{drop_may, user_leaves}
use Rattle.ls_removals.proofs.StoredLemmas.{stored_alike}
use Rattle.ls_removals.proofs.UserLemmas.{refused, nobody, own_is, here, its_user, user_waits, user_leads}
use Rattle.ls_removals.proofs.users.user_drop.Goals as goal

pub returns-in_default-clause-serves : goal.returns-in_default-clause-serves
returns-in_default-clause-serves g c = refused c.args.x.now c.args.user (g.B.Board.sight c.args.board.now) c.requires.can _ (nobody c.args.x.now c.args.user (sym c.in_default.ensures.same))

pub returns-in-Some-unless_kept-clause-serves : goal.returns-in-Some-unless_kept-clause-serves
returns-in-Some-unless_kept-clause-serves g c =
    refused c.args.x.now c.args.user (g.B.Board.sight c.args.board.now) c.requires.can c.in-Some-unless_kept.why
    (own_is c.args.x.now c.args.user c.in-Some.row.now (sym c.in-Some.ensures.same) ∙ sym c.in-Some-unless_kept.ensures.same)

pub user_plan-requires : goal.user_plan-requires
user_plan-requires g c = record {
  may = drop_may (g.B.Board.sight c.args.board.now).world c.args.x.now.settings.settled.rec c.in-Some.ensures.kept c.in-Some.row.now
      (here c.args.x.now c.args.user c.in-Some.row.now (sym c.in-Some.ensures.same)) c.args.user
      (its_user c.args.x.now c.args.user c.in-Some.row.now (sym c.in-Some.ensures.same));
}

pub returns-in-Err-clause-serves : goal.returns-in-Err-clause-serves
returns-in-Err-clause-serves g c =
    lacking (g.B.Board.sight c.args.board.now) c.args.x.now _ (turned c.args.x.now.slots (command.Drop c.args.user)) Always
    (record { slots = refl; boot = refl; settings = refl; named = refl; retired = refl }) refl

pub let_user_go-requires : goal.let_user_go-requires
let_user_go-requires g c = λ κs le. (
  le,
  (
    refl,
    (
      c.requires.can,
      (
        c.in-Some.ensures.kept,
        (
          c.in-Ok.ensures.commit,
          (
            user_leaves (g.B.Board.sight c.args.board.now).world c.args.x.now.settings.settled.rec c.in-Some.ensures.kept c.in-Some.row.now
                (here c.args.x.now c.args.user c.in-Some.row.now (sym c.in-Some.ensures.same)) c.args.user
                (its_user c.args.x.now c.args.user c.in-Some.row.now (sym c.in-Some.ensures.same))
                c.in-Ok.planned.commit.to.settled.rec c.in-Ok.planned.after c.in-Ok.ensures.next c.in-Ok.ensures.after,
            user_waits c.args.x.now c.args.user c.in-Some.row.now (sym c.in-Some.ensures.same) c.in-Some.ensures.kept (g.B.Board.sight c.args.board.now).world
                c.requires.can.waits c.in-Ok.planned.commit.to.settled.rec c.in-Ok.ensures.next,
          ),
        ),
      ),
    ),
  ),
)

pub returns-clause-serves : goal.returns-clause-serves
returns-clause-serves g c =
    c.let_user_go.ensures.serves (turned c.args.x.now.slots (command.Drop c.args.user))
    (λ y lost.
    user_leads c.args.x.now c.args.user c.in-Some.row.now (sym c.in-Some.ensures.same)
    (sym c.in-None.ensures.same) (g.B.Board.sight c.args.board.now) y lost c.in-Some.ensures.kept c.in-Ok.planned.commit.to.settled.rec c.in-Ok.ensures.next)

pub returns-clause-untouched : goal.returns-clause-untouched
returns-clause-untouched g c = λ lacks told. stored_alike (g.B.Board.sight c.args.board.now) (g.B.Board.sight c.let_user_go.new.board) (c.let_user_go.ensures.untouched lacks)
