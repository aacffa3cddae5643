use Rattle.std.proofs.Common.{refl}
use Rattle.ls_promises.proofs.CounterLemmas.{counted_along, waits_along, missed, throttled}
use Rattle.ls_vault.specs.Users.{user_of}
use Rattle.ls_promises.proofs.throttle.wrong_texts_stay_counted.Goals as goal

pub returns-clause-counted : goal.returns-clause-counted
returns-clause-counted c = λ slots s events user fails has small none. counted_along slots user s events fails has small none

pub returns-clause-until : goal.returns-clause-until
returns-clause-until c = λ slots s events user until has none right. waits_along slots user s events until has none right

pub returns-clause-missed : goal.returns-clause-missed
returns-clause-missed c = λ slots s user offered moment drawn rest fails is has.
    missed slots s user offered moment drawn rest fails is (user_of s.vault.users user) refl has

pub returns-clause-throttled : goal.returns-clause-throttled
returns-clause-throttled c = throttled
