use Rattle.std.proofs.Common.{refl, ap}
use Rattle.ls_promises.proofs.EndingLemmas.{none_unarmed, same_unarmed, ended_books, lost_books, forgotten_books, worn_books, quiet_books}
use Rattle.ls_promises.proofs.endings.prepares_end_the_arming.Goals as goal

pub returns-clause-none : goal.returns-clause-none
returns-clause-none c = λ slots s moment drawn. none_unarmed s s.vault.arming refl

pub returns-clause-users : goal.returns-clause-users
returns-clause-users c = λ slots s moment drawn. same_unarmed s (λ t. t.vault.users) (λ t users session. users) s.vault.arming

pub returns-clause-opened : goal.returns-clause-opened
returns-clause-opened c = λ slots s moment drawn. same_unarmed s (λ t. t.session.opened) (λ t users session. ap (λ x. x.opened) session) s.vault.arming

pub returns-clause-pending : goal.returns-clause-pending
returns-clause-pending c = λ slots s moment drawn. same_unarmed s (λ t. t.session.pending) (λ t users session. ap (λ x. x.pending) session) s.vault.arming

pub returns-clause-prepared : goal.returns-clause-prepared
returns-clause-prepared c = λ slots s moment drawn. refl

pub returns-clause-captured : goal.returns-clause-captured
returns-clause-captured c = λ slots s moment drawn. refl

pub returns-clause-ended : goal.returns-clause-ended
returns-clause-ended c = λ slots s moment drawn arming there other. ended_books s arming there other

pub returns-clause-lost : goal.returns-clause-lost
returns-clause-lost c = λ slots s moment drawn arming there is. lost_books s arming there is

pub returns-clause-forgotten : goal.returns-clause-forgotten
returns-clause-forgotten c = λ slots s moment drawn there some other. forgotten_books s there some other

pub returns-clause-worn : goal.returns-clause-worn
returns-clause-worn c = λ slots s moment drawn there is. worn_books s there is

pub returns-clause-quiet : goal.returns-clause-quiet
returns-clause-quiet c = λ slots s moment drawn there none. quiet_books s there none
