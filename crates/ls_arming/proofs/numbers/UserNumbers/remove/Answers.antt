use Rattle.std.proofs.Common.{rules, ◌∙◌, ap}
use Rattle.std.proofs.lemmas.Fn.{filter_same}
use Rattle.ls_arming.specs.Numbers.{without_number}
use Rattle.ls_arming.proofs.numbers.UserNumbers.remove.Goals as goal

pub returns : goal.returns
returns c = record { same = filter_same _ _ _ (λ x b f' k. search rules) _ _ c.retain.ensures.filtered ∙ ap (λ ns. without_number ns c.args.n) c.self.view_is }
