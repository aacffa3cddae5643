use Rattle.ls_standing.proofs.StorageLemmas.{storage_holds, storage_stands, storage_durably, storage_ready, storage_bare}
use Rattle.ls_standing.proofs.storage.a_vault_stands_in_storage.Goals as goal

pub returns-clause-holds : goal.returns-clause-holds
returns-clause-holds c = λ w mid r v same. storage_holds w mid same r v

pub returns-clause-stands : goal.returns-clause-stands
returns-clause-stands c = λ w mid s v same. storage_stands w mid same s v

pub returns-clause-durably : goal.returns-clause-durably
returns-clause-durably c = λ w mid s v same. storage_durably w mid same s v

pub returns-clause-ready : goal.returns-clause-ready
returns-clause-ready c = λ w mid l same. storage_ready w mid same l

pub returns-clause-bare : goal.returns-clause-bare
returns-clause-bare c = λ start w mid r retired same. storage_bare w mid same start r retired
