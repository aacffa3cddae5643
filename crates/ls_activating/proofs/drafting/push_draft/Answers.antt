use Rattle.std.proofs.Common.{◌∙◌, ℕ, List, ap, arith}
use Rattle.ls_protector.specs.Drafts.{drafted}
use Rattle.ls_sealing.specs.Building.{for_token}
use Rattle.ls_activating.proofs.DraftLemmas.{adds_one, within_board}
use Rattle.ls_activating.proofs.drafting.push_draft.Goals as goal

pub returns-clause-adds : goal.returns-clause-adds
returns-clause-adds c =
    adds_one c.args.slots c.args.user c.args.version c.args.p0.now c.push_slot.result c.args.taken.now c.push_slot.new.taken c.free_slot-slot.result c.args.one.now c.args.drawn.now
    c.args.drafts.now.items c.push_reserved.new.self.items c.in-Ok.draft c.free_slot-slot.ensures.free c.requires.drawn (λ i. let f = c.type_inv.drawn i in omega (arith, f))
    c.push_slot.ensures.pushed c.push_reserved.ensures.items (λ gk_key. c.in-Ok.ensures.drafts gk_key
    ∙ ap (λ (l : List ℕ). drafted c.args.user c.args.one.now.id c.free_slot-slot.result (for_token l c.args.version c.args.p0.now) c.args.drawn.now gk_key) c.as_slice-token.ensures.same)
    (c.in-Ok.ensures.asked c.args.slots (within_board c.args.slots c.free_slot-slot.result c.free_slot-slot.ensures.free.fits))
