use Rattle.std.proofs.Common.{not, rules}
use Rattle.std.proofs.lemmas.Fn.{filter_same}
use Rattle.ls_record.specs.Rows.{has}
use Rattle.ls_activating.proofs.choosing.take_out.Goals as goal

pub returns : goal.returns
returns c = record { same = filter_same _ (λ p. not (has c.args.ids.now p.id)) _ (λ x b f k. search rules) _ _ c.retain.ensures.filtered }
