use Rattle.std.proofs.Common.{Option, refl, ap}
use Rattle.std.specs.Prelude.{option_map}
use Rattle.ls_promises.proofs.SecretLemmas.{secret_added, secret_kept, secret_along, derived_along}
use Rattle.ls_promises.specs.Secrets.{secret_of}
use Rattle.ls_script.specs.declared.command.Command.TheVariants as command
use Rattle.ls_secret.specs.Derivation.{derived_of}
use Rattle.ls_secret.specs.Secrets.{SecretValue}
use Rattle.ls_vault.specs.Refusals.{refusal}
use Rattle.ls_promises.proofs.secrets.secrets_stay.Goals as goal

pub returns-clause-added : goal.returns-clause-added
returns-clause-added c = λ slots s user escrow moment drawn fine. secret_added slots s user escrow moment drawn (refusal slots s (command.Add user escrow) moment) fine

pub returns-clause-command : goal.returns-clause-command
returns-clause-command c = λ slots s k moment drawn user other. secret_kept slots s moment drawn user k other

pub returns-clause-change : goal.returns-clause-change
returns-clause-change c = λ slots s changed new moment drawn user.
    ap (λ (o : Option SecretValue). option_map derived_of o) (secret_kept slots s moment drawn user (command.Change changed new) refl)

pub returns-clause-history : goal.returns-clause-history
returns-clause-history c = λ slots s events user secret has none. secret_along slots user secret s events has none

pub returns-clause-derived : goal.returns-clause-derived
returns-clause-derived c = λ slots s events user keys has none. derived_along slots s events user keys (secret_of s user) refl has none
