use Rattle.ls_credential.proofs.StretchLemmas.{longest_goes_on}
use Rattle.ls_credential.proofs.stretch.+longest_by.Goals as goal

pub returns-in-len1-up-clause-same : goal.returns-in-len1-up-clause-same
returns-in-len1-up-clause-same t c =
    rw (c.max.ensures, c.front_by.ensures.same, c.longest_by.ensures.same)
    (longest_goes_on c.args.step c.args.text.now c.in-len1-up.len_at_least)
