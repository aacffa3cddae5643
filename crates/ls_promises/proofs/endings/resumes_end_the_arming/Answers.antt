use Rattle.std.proofs.Common.{◌∙◌}
use Rattle.ls_promises.proofs.EndingLemmas.{resume_none, resume_users, resume_session, resume_early, resume_late, resume_good, resume_books, taken_kept, taken_worn}
use Rattle.ls_promises.proofs.endings.resumes_end_the_arming.Goals as goal

pub returns-clause-none : goal.returns-clause-none
returns-clause-none c = λ slots s moment drawn. resume_none s slots moment drawn

pub returns-clause-users : goal.returns-clause-users
returns-clause-users c = λ slots s moment drawn. resume_users s slots moment drawn

pub returns-clause-session : goal.returns-clause-session
returns-clause-session c = λ slots s moment drawn armed boot is. resume_session s slots moment drawn armed boot is

pub returns-clause-early : goal.returns-clause-early
returns-clause-early c = λ slots s moment drawn arming there less. resume_early s slots moment drawn arming there less

pub returns-clause-late : goal.returns-clause-late
returns-clause-late c = λ slots s moment drawn arming there less. resume_late s slots moment drawn arming there less

pub returns-clause-good : goal.returns-clause-good
returns-clause-good c = λ slots s moment drawn arming there first last. resume_good s slots moment drawn arming there first last

pub returns-clause-kept : goal.returns-clause-kept
returns-clause-kept c = λ slots s moment drawn arming there other. resume_books s slots moment drawn arming there ∙ taken_kept s arming.users other

pub returns-clause-worn : goal.returns-clause-worn
returns-clause-worn c = λ slots s moment drawn arming there is. resume_books s slots moment drawn arming there ∙ taken_worn s arming.users is
