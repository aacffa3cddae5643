use Rattle.std.proofs.Common.{refl}
use Rattle.ls_promises.proofs.LockLemmas.{lock_accepted, lock_closed, lock_others, lock_keeps}
use Rattle.ls_promises.proofs.locks.locks_close.Goals as goal

pub returns-clause-accepted : goal.returns-clause-accepted
returns-clause-accepted c = λ slots s user moment drawn there. lock_accepted slots s user moment drawn there

pub returns-clause-closed : goal.returns-clause-closed
returns-clause-closed c = λ slots s user moment drawn fine. lock_closed slots s user moment drawn fine

pub returns-clause-others : goal.returns-clause-others
returns-clause-others c = λ slots s user moment drawn other differ. lock_others slots s user moment drawn other differ

pub returns-clause-captured : goal.returns-clause-captured
returns-clause-captured c = λ slots s user moment drawn. lock_keeps slots s user moment drawn (λ t. t.session.captured) refl

pub returns-clause-pending : goal.returns-clause-pending
returns-clause-pending c = λ slots s user moment drawn. lock_keeps slots s user moment drawn (λ t. t.session.pending) refl

pub returns-clause-vault : goal.returns-clause-vault
returns-clause-vault c = λ slots s user moment drawn. lock_keeps slots s user moment drawn (λ t. t.vault) refl

pub returns-clause-books : goal.returns-clause-books
returns-clause-books c = λ slots s user moment drawn. lock_keeps slots s user moment drawn (λ t. t.books) refl
