use Rattle.ls_edits.proofs.KeepingLemmas.{pin_held, tokens_held, more_held, plain_held}
use Rattle.ls_edits.proofs.keeping.a_user_keeps_what_it_has.Goals as goal

pub returns-clause-pin : goal.returns-clause-pin
returns-clause-pin c = λ w armed row u auto pin shown is. pin_held w armed row u auto pin shown is

pub returns-clause-tokens : goal.returns-clause-tokens
returns-clause-tokens c = λ w armed row u keeps is. tokens_held keeps w armed row u is

pub returns-clause-escrow : goal.returns-clause-escrow
returns-clause-escrow c = plain_held

pub returns-clause-more : goal.returns-clause-more
returns-clause-more c = λ w armed row u more on is seal. more_held w armed row u more seal on is
