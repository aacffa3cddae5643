use Rattle.std.proofs.Common.{rules, ◌∙◌, ap}
use Rattle.std.proofs.lemmas.Fn.{filter_same}
use Rattle.ls_vault.specs.Tokens.{without_pending}
use Rattle.ls_vault.proofs.tokens.remove_pending.Goals as goal

pub returns : goal.returns
returns c = record { same = filter_same _ _ _ (λ x b f' k. search rules) _ _ c.retain.ensures.filtered ∙ ap (λ xs. without_pending xs c.args.user c.args.id) c.pending.view_is }
