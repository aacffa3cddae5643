use Rattle.std.proofs.Common.{rules}
use Rattle.std.proofs.lemmas.Fn.{filter_same}
use Rattle.ls_removals.proofs.waiting.drop_waiting.Goals as goal

pub returns : goal.returns
returns c = record { same = filter_same _ _ _ (λ x b f' k. search rules) _ _ c.retain.ensures.filtered }
