use Rattle.ls_protector.proofs.DraftLemmas.{draft_sees, draft_asks}
use Rattle.ls_protector.proofs.drafting.draft_credential.Goals as goal

pub returns-clause-drafts : goal.returns-clause-drafts
returns-clause-drafts g c =
    draft_sees c.args.user c.args.id c.args.slot c.args.credential.now c.args.secret.now c.args.drawn.now c.in_ok-draft.draft c.in_ok-handle.handle c.in_ok-draft.ensures.same
    (g.B.Board.sight c.args.board.now) (g.B.Board.sight c.handle_for.new.board) c.in_ok-handle.ensures.sees

pub returns-clause-asked : goal.returns-clause-asked
returns-clause-asked g c =
    draft_asks c.args.user c.args.id c.args.slot c.args.credential.now c.args.secret.now c.args.drawn.now c.in_ok-draft.draft c.in_ok-handle.handle c.in_ok-draft.ensures.same
    (g.B.Board.sight c.args.board.now).slots c.requires.slot
