use Rattle.std.proofs.Common.{sym, ◌∙◌, ap, ◌+◌}
use Rattle.ls_credential.proofs.StretchLemmas.{front_of_one, front_goes_on, front_stops}
use Rattle.ls_credential.proofs.stretch.+front_by.Goals as goal

pub returns-in-len1-clause-same : goal.returns-in-len1-clause-same
returns-in-len1-clause-same t c = sym (front_of_one c.args.step c.args.text.now c.in-len1.len_at_least c.in-len1.len_below)

pub returns-then-follows-clause-same : goal.returns-then-follows-clause-same
returns-then-follows-clause-same t c =
    ap (λ n. 1 + n) c.front_by.ensures.same
    ∙ front_goes_on c.args.step c.args.text.now c.in-len1-up.len_at_least (sym c.follows.ensures.same ∙ c.if-follows.true)

pub returns-else-follows-clause-same : goal.returns-else-follows-clause-same
returns-else-follows-clause-same t c =
    sym (front_stops c.args.step c.args.text.now c.in-len1-up.len_at_least (sym c.follows.ensures.same ∙ c.if-follows.false))
