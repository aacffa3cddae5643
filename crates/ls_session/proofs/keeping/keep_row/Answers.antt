use Rattle.std.proofs.Common.{List, ◌∷◌, ◌++◌, [], ℕ, ap, subst}
use Rattle.std.specs.Prelude.{map}
use Rattle.ls_reading.specs.Reading.{Sees}
use Rattle.ls_standing.specs.Named.{credential_of}
use Rattle.ls_session.specs.Keeping.{kept_behind, tokens_for}
use Rattle.ls_session.proofs.KeepingLemmas.{both, zip_whole, ends_as}
use Rattle.ls_session.proofs.keeping.keep_row.Goals as goal

pub returns-clause-sees : goal.returns-clause-sees
returns-clause-sees g c = both c.args.slots (g.B.Board.sight c.args.board.now) (g.B.Board.sight c.keep_credential.new.board) (g.B.Board.sight c.keep_tokens.new.board) c.args.kept c.in_ok-kept.kept c.keep_tokens.result
    (credential_of c.args.row.now ∷ []) (map (tokens_for c.args.row.now.user) c.args.row.now.tokens) c.in_ok-kept.ensures.sees
    (subst (λ (l : List ℕ). Sees (kept_behind c.args.slots (map (tokens_for c.args.row.now.user) l) c.in_ok-kept.kept) (g.B.Board.sight c.keep_credential.new.board) c.keep_tokens.result (g.B.Board.sight c.keep_tokens.new.board)) c.as_slice.ensures.same c.keep_tokens.ensures.sees)

pub returns-clause-zip : goal.returns-clause-zip
returns-clause-zip g c = λ done all. zip_whole c.args.slots c.keep_tokens.result (credential_of c.args.row.now ∷ []) (map (tokens_for c.args.row.now.user) c.args.row.now.tokens) done
    (ends_as c.args.slots c.keep_tokens.result _ _ (ap (λ (l : List ℕ). (done ++ credential_of c.args.row.now ∷ []) ++ map (tokens_for c.args.row.now.user) l) c.as_slice.ensures.same)
    (c.keep_tokens.ensures.zip _ (c.in_ok-kept.ensures.zip done all)))
