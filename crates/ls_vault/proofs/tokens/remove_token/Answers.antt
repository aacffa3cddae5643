use Rattle.std.proofs.Common.{rules, ◌∙◌, ap}
use Rattle.std.proofs.lemmas.Fn.{filter_same}
use Rattle.ls_vault.specs.Tokens.{without_token}
use Rattle.ls_vault.proofs.tokens.remove_token.Goals as goal

pub returns : goal.returns
returns c = record { same = filter_same _ _ _ (λ x b f' k. search rules) _ _ c.retain.ensures.filtered ∙ ap (λ xs. without_token xs c.args.id) c.tokens.view_is }
