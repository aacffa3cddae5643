use Rattle.ls_promises.proofs.PinLengthLemmas.{length_shown, length_long, length_same}
use Rattle.ls_promises.proofs.pin_lengths.pin_lengths_are_guarded.Goals as goal

pub returns-clause-shown : goal.returns-clause-shown
returns-clause-shown c = λ slots s user moment drawn digits some. length_shown s user slots moment drawn digits some

pub returns-clause-long : goal.returns-clause-long
returns-clause-long c = λ slots s user moment drawn digits some is. length_long s user slots moment drawn digits some is

pub returns-clause-same : goal.returns-clause-same
returns-clause-same c = λ slots s user moment drawn. length_same s user slots moment drawn
