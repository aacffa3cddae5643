use Rattle.ls_session.proofs.KeepingLemmas.{next_token, zip_token}
use Rattle.ls_session.proofs.keeping.+keep_tokens.Goals as goal

pub returns-in_ok-kept-in-len1-up-clause-sees : goal.returns-in_ok-kept-in-len1-up-clause-sees
returns-in_ok-kept-in-len1-up-clause-sees g t c = next_token c.args.slots (g.B.Board.sight c.args.board.now) (g.B.Board.sight c.keep_token.new.board) (g.B.Board.sight c.keep_tokens.new.board) c.args.kept c.in_ok-kept-in-len1-up.kept c.keep_tokens.result
    c.args.user c.args.tokens.now c.in-len1-up.len_at_least c.in_ok-kept-in-len1-up.ensures.sees c.keep_tokens.ensures.sees

pub returns-in_ok-kept-in-len1-up-clause-zip : goal.returns-in_ok-kept-in-len1-up-clause-zip
returns-in_ok-kept-in-len1-up-clause-zip g t c = λ done all. zip_token c.args.slots c.keep_tokens.result c.args.user c.args.tokens.now done c.in-len1-up.len_at_least
    (c.keep_tokens.ensures.zip _ (c.in_ok-kept-in-len1-up.ensures.zip done all))
