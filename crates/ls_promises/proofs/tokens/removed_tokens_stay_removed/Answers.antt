use Rattle.ls_promises.proofs.TokenLemmas.{ended, never_along}
use Rattle.ls_vault.specs.Step.{step}
use Rattle.ls_promises.proofs.tokens.removed_tokens_stay_removed.Goals as goal

pub returns : goal.returns
returns c = record {
  removed = λ slots s k moment drawn events user id bytes ends none.
      never_along user id bytes slots (step slots s k moment drawn).state events (ended user id bytes slots s k moment drawn ends) none;
}
