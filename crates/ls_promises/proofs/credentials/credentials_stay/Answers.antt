use Rattle.std.proofs.Common.{refl}
use Rattle.ls_promises.proofs.CredentialLemmas.{none_added, new_given, credential_kept, credential_along}
use Rattle.ls_script.specs.declared.command.Command.TheVariants as command
use Rattle.ls_vault.specs.Refusals.{refusal}
use Rattle.ls_vault.specs.Users.{user_of}
use Rattle.ls_promises.proofs.credentials.credentials_stay.Goals as goal

pub returns-clause-added : goal.returns-clause-added
returns-clause-added c = λ slots s user escrow moment drawn fine. none_added slots s user escrow moment drawn (refusal slots s (command.Add user escrow) moment) fine

pub returns-clause-changed : goal.returns-clause-changed
returns-clause-changed c = λ slots s user new moment drawn fine. new_given slots s user new moment drawn (user_of s.vault.users user) refl fine

pub returns-clause-command : goal.returns-clause-command
returns-clause-command c = λ slots s k moment drawn user other. credential_kept slots s moment drawn user k other

pub returns-clause-history : goal.returns-clause-history
returns-clause-history c = λ slots s events user none. credential_along slots user s events none
