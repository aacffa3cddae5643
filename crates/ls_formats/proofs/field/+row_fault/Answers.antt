use Rattle.std.proofs.Common.{sym, ap, ◌∙◌, arith}
use Rattle.std.proofs.lemmas.List.{take_rest}
use Rattle.ls_formats.specs.declared.field.Rule.TheVariants.{Any}
use Rattle.ls_formats.specs.Rules.{behind}
use Rattle.ls_formats.proofs.FieldLemmas.{row_whole}
use Rattle.ls_formats.proofs.field.+row_fault.Goals as goal

pub returns-else-good-width-clause-exact : goal.returns-else-good-width-clause-exact
returns-else-good-width-clause-exact t c =
    let rest = rw (take_rest c.args.fields.now 1, take_rest c.args.bytes.now) at c.row_fault.ensures.exact in
    c.behind.ensures.same ∙ ap (behind _) rest
    ∙ sym (row_whole c.args.fields.now c.args.bytes.now (record { width = 0; rule = Any }) (omega arith) (omega (arith, c.good_front-good.ensures.count)))
