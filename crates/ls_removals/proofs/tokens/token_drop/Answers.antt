use Rattle.std.proofs.Common.{refl, sym, ◌∙◌}
use Rattle.ls_turn.specs.Serving.{turned, Always}
use Rattle.ls_script.specs.declared.command.Command.TheVariants as command
use Rattle.ls_turn.proofs.StillLemmas.{lacking}
use Rattle.ls_removals.proofs.StoredLemmas.{stored_alike}
use Rattle.ls_removals.proofs.TokenLemmas.{refused, nobody, own_is, waiting_serves, drop_may, drop_leaves, drop_waits, drop_leads}
use Rattle.ls_removals.proofs.tokens.token_drop.Goals as goal

pub returns-in_default-clause-serves : goal.returns-in_default-clause-serves
returns-in_default-clause-serves g c =
    refused c.args.x.now c.args.user c.args.id (g.B.Board.sight c.args.board.now) c.requires.can _ (nobody c.args.x.now c.args.user c.args.id (sym c.in_default.ensures.same))

pub returns-in-Some-token_refusal-clause-serves : goal.returns-in-Some-token_refusal-clause-serves
returns-in-Some-token_refusal-clause-serves g c =
    refused c.args.x.now c.args.user c.args.id (g.B.Board.sight c.args.board.now) c.requires.can c.in-Some-token_refusal.why
    (own_is c.args.x.now c.args.user c.args.id c.in-Some.row.now (sym c.in-Some.ensures.same) ∙ sym c.in-Some-token_refusal.ensures.same)

pub returns-then-not-has_token-clause-serves : goal.returns-then-not-has_token-clause-serves
returns-then-not-has_token-clause-serves g c =
    waiting_serves c.args.x.now c.args.user c.args.id c.in-Some.row.now (sym c.in-Some.ensures.same) (sym c.in-None.ensures.same) (sym c.if-not-has_token.ensures.same)
    (record c.args.x.now { pending = c.drop_waiting.new.pending }) (record { is = refl; pending = c.drop_waiting.ensures.same })
    (g.B.Board.sight c.args.board.now) c.requires.can

pub token_plan-requires : goal.token_plan-requires
token_plan-requires g c = record {
  may = drop_may c.args.x.now c.args.user c.args.id c.in-Some.row.now (sym c.in-Some.ensures.same) c.in-Some.ensures.kept (sym c.if-not-has_token.ensures.same);
}

pub returns-in-Err-clause-serves : goal.returns-in-Err-clause-serves
returns-in-Err-clause-serves g c =
    lacking (g.B.Board.sight c.args.board.now) c.args.x.now _ (turned c.args.x.now.slots (command.TokenDrop c.args.user c.args.id)) Always
    (record { slots = refl; boot = refl; settings = refl; named = refl; retired = refl }) refl

pub let_tokens_go-requires : goal.let_tokens_go-requires
let_tokens_go-requires g c = λ κs le. (
  le,
  (
    refl,
    (
      c.requires.can,
      (
        c.in-Some.ensures.kept,
        (
          c.in-Ok.ensures.commit,
          (
            drop_leaves c.args.x.now c.args.user c.args.id c.in-Some.row.now (sym c.in-Some.ensures.same) c.in-Some.ensures.kept (sym c.if-not-has_token.ensures.same)
                c.in-Ok.planned.commit.to.settled.rec c.in-Ok.planned.after c.in-Ok.ensures.next c.in-Ok.ensures.after,
            drop_waits c.args.x.now c.args.user c.args.id c.in-Some.row.now (sym c.in-Some.ensures.same) c.in-Some.ensures.kept (sym c.if-not-has_token.ensures.same)
                c.requires.can.waits c.in-Ok.planned.commit.to.settled.rec c.in-Ok.ensures.next,
          ),
        ),
      ),
    ),
  ),
)

pub returns-clause-serves : goal.returns-clause-serves
returns-clause-serves g c =
    c.let_tokens_go.ensures.serves (turned c.args.x.now.slots (command.TokenDrop c.args.user c.args.id))
    (λ y forgotten.
    drop_leads c.args.x.now c.args.user c.args.id c.in-Some.row.now (sym c.in-Some.ensures.same) c.in-Some.ensures.kept (sym c.if-not-has_token.ensures.same)
    (sym c.in-None.ensures.same) (g.B.Board.sight c.args.board.now) y forgotten c.in-Ok.planned.commit.to.settled.rec c.in-Ok.ensures.next)

pub returns-clause-untouched : goal.returns-clause-untouched
returns-clause-untouched g c = λ lacks told. stored_alike (g.B.Board.sight c.args.board.now) (g.B.Board.sight c.let_tokens_go.new.board) (c.let_tokens_go.ensures.untouched lacks)
