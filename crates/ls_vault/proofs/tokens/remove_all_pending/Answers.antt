use Rattle.std.proofs.Common.{rules, ◌∙◌, ap}
use Rattle.std.proofs.lemmas.Fn.{filter_same}
use Rattle.ls_vault.specs.Tokens.{pending_of_others}
use Rattle.ls_vault.proofs.tokens.remove_all_pending.Goals as goal

pub returns : goal.returns
returns c = record { same = filter_same _ _ _ (λ x b f' k. search rules) _ _ c.retain.ensures.filtered ∙ ap (λ xs. pending_of_others xs c.args.user) c.pending.view_is }
