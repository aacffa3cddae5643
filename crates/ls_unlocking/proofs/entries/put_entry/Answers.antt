use Rattle.std.proofs.Common.{List, refl, ◌∙◌, ap, subst}
use Rattle.ls_turn.specs.declared.session.Opened.{Opened}
use Rattle.ls_unlocking.proofs.EntryLemmas.{IsThere, IsMissing, smaller, entry_there, entry_inserted}
use Rattle.ls_unlocking.proofs.entries.put_entry.Goals as goal

pub returns-then-is_at-clause-put : goal.returns-then-is_at-clause-put
returns-then-is_at-clause-put c =
    entry_there c.args.one c.args.entries.now.items c.smaller_front-at.result
    (c.smaller_front-at.ensures.count ∙ ap (λ (l : List Opened). smaller l c.args.one.user) c.deref.ensures.value)
    (subst (λ (l : List Opened). IsThere l c.smaller_front-at.result c.args.one.user) c.deref-2.ensures.value (c.if-is_at.ensures.there refl))

pub returns-in-Ok-clause-put : goal.returns-in-Ok-clause-put
returns-in-Ok-clause-put c =
    c.in-Ok.ensures.put
    ∙ entry_inserted c.args.one c.args.entries.now.items c.smaller_front-at.result
    (c.smaller_front-at.ensures.count ∙ ap (λ (l : List Opened). smaller l c.args.one.user) c.deref.ensures.value)
    (subst (λ (l : List Opened). IsMissing l c.smaller_front-at.result c.args.one.user) c.deref-2.ensures.value (c.if-is_at.ensures.missing refl))
