use Rattle.std.proofs.Common.{drop}
use Rattle.ls_activating.proofs.DraftLemmas.{adds_more}
use Rattle.ls_activating.proofs.ListLemmas.{by_first, others}
use Rattle.ls_activating.proofs.drafting.+push_drafts.Goals as goal

pub returns-in-Ok : goal.returns-in-Ok
returns-in-Ok t c = record {
  adds = adds_more c.args.slots c.args.user c.args.version c.args.p0.now c.args.taken.now c.push_draft.new.taken c.one-item.result (others c.args.tokens.now) c.args.tokens.now _
      c.args.drafts.now.items c.push_draft.new.drafts.items c.push_drafts.new.drafts.items
      (by_first c.args.tokens.now c.one-item.result _ c.in-len1-up.len_at_least c.one-item.is) c.in-Ok.ensures.adds c.push_drafts.result c.push_drafts.ensures.adds;
}
