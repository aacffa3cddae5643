use Rattle.ls_attempts.proofs.EndLemmas.{credential_ends, tokens_end, metrics_end, handle_ends}
use Rattle.ls_attempts.proofs.RowLemmas.{rows_hold}
use Rattle.ls_attempts.proofs.laws.attempts_end_as_the_user_is.Goals as goal

pub returns-clause-credential : goal.returns-clause-credential
returns-clause-credential c = λ w r row u d slot moment record_is is apart kind its. credential_ends w r row u d slot moment is record_is apart kind its

pub returns-clause-token : goal.returns-clause-token
returns-clause-token c = λ w r row u t offered slot is there apart its. tokens_end w r row u t offered slot is there apart its

pub returns-clause-metrics : goal.returns-clause-metrics
returns-clause-metrics c = λ w r row u is some. metrics_end w r row u is some

pub returns-clause-handle : goal.returns-clause-handle
returns-clause-handle c = λ w r row u record_is is some. handle_ends w r row u is record_is some

pub returns-clause-rows : goal.returns-clause-rows
returns-clause-rows c = λ w r v is. rows_hold w r v is
