use Rattle.std.proofs.Common.{ℕ, List, sym, subst}
use Rattle.std.specs.List.{Contains}
use Rattle.ls_chain.specs.Trying.{MayTry}
use Rattle.ls_formats.specs.declared.parts.Parts.{Parts}
use Rattle.ls_standing.specs.Named.{token_of}
use Rattle.ls_unlocking.specs.Trying.{token_ask, token_look}
use Rattle.ls_unlocking.proofs.PartLemmas.{token_named, there, some_id, its_slot}
use Rattle.ls_unlocking.proofs.TokenAttemptLemmas.{id_there}
use Rattle.ls_unlocking.proofs.token_attempts.try_bytes.Goals as goal

pub parts_of-parts-requires : goal.parts_of-parts-requires
parts_of-parts-requires g c =
    let kept = there (g.B.Board.sight c.args.board.now) c.args.x.now c.requires.can c.requires.rules (token_of c.args.row.now c.args.id)
    (token_named c.args.x.now.settings.settled.rec c.args.row.now c.requires.row c.args.id (id_there c.args.row.now.tokens c.args.id c.requires.token)) in
    record { there = (kept.0, subst (λ (l : List Parts). Contains l kept.0) (sym c.deref.ensures.value) kept.1, kept.2) }

pub try_token-tried-requires-clause-id : goal.try_token-tried-requires-clause-id
try_token-tried-requires-clause-id g c =
    some_id (g.B.Board.sight c.args.board.now) c.args.x.now c.requires.can c.requires.rules (token_of c.args.row.now c.args.id)
    (token_named c.args.x.now.settings.settled.rec c.args.row.now c.requires.row c.args.id (id_there c.args.row.now.tokens c.args.id c.requires.token))
    c.parts_of-parts.result.now c.parts_of-parts.ensures.id

pub try_token-tried-requires-clause-slot : goal.try_token-tried-requires-clause-slot
try_token-tried-requires-clause-slot g c =
    its_slot (g.B.Board.sight c.args.board.now) c.args.x.now c.requires.can c.requires.rules c.parts_of-parts.result.now
    (subst (λ (l : List Parts). Contains l c.parts_of-parts.result.now) c.deref.ensures.value c.parts_of-parts.ensures.kept)

pub returns-clause-unlocks : goal.returns-clause-unlocks
returns-clause-unlocks g c = (
  c.parts_of-parts.result.now,
  subst (λ (l : List Parts). Contains l c.parts_of-parts.result.now) c.deref.ensures.value c.parts_of-parts.ensures.kept,
  c.parts_of-parts.ensures.id,
  record {
    mid = g.B.Board.sight c.try_token-tried.new.board;
    tried = c.try_token-tried.result;
    trying = subst (λ (l : List ℕ). MayTry (token_ask c.parts_of-parts.result.now) (token_look c.parts_of-parts.result.now l) (g.B.Board.sight c.args.board.now) c.try_token-tried.result (g.B.Board.sight c.try_token-tried.new.board))
        c.as_slice.ensures.same c.try_token-tried.ensures.tries;
    behind = c.reveal_tried.ensures.behind;
  },
  c.try_token-tried.ensures.met,
)
