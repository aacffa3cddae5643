use Rattle.std.proofs.Common.{[]}
use Rattle.ls_sealing.specs.Building.{for_token}
use Rattle.ls_token.proofs.TokenDraftLemmas.{odd_some, draft_touches, draft_asks}
use Rattle.ls_token.proofs.drafting.draft_token.Goals as goal

pub draft_at-requires : goal.draft_at-requires
draft_at-requires c = record { id = odd_some c.args.id c.requires.id; version = c.requires.version; drawn = c.requires.drawn }

pub returns-clause-drafts : goal.returns-clause-drafts
returns-clause-drafts c = λ gk_key. c.in_ok-draft.ensures.same

pub returns-clause-touches : goal.returns-clause-touches
returns-clause-touches c = draft_touches c.args.user c.args.id c.args.slot (for_token c.args.token.now c.args.version c.args.p0.now) c.args.drawn.now [] _ c.in_ok-draft.ensures.same

pub returns-clause-asked : goal.returns-clause-asked
returns-clause-asked c = draft_asks c.args.user c.args.id c.args.slot (for_token c.args.token.now c.args.version c.args.p0.now) c.args.drawn.now [] _ c.in_ok-draft.ensures.same
