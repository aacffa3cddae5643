use Rattle.std.proofs.Common.{ap, sym, ◌∙◌, codes, Some, arith}
use Rattle.ls_formats.specs.declared.field.Rule.TheVariants.{HexDigit}
use Rattle.ls_formats.specs.Rules.{behind}
use Rattle.ls_formats.specs.Format.{first_fault}
use Rattle.ls_formats.specs.FileNames.{text_then, is_zero, part_format}
use Rattle.ls_formats.proofs.FieldLemmas.{short_field, whole_field}
use Rattle.ls_formats.proofs.name_fault.id_fault.Goals as goal

pub returns-then-good-lt16-clause-exact : goal.returns-then-good-lt16-clause-exact
returns-then-good-lt16-clause-exact c =
    ap Some c.good_front-good.ensures.count
    ∙ sym (short_field 16 HexDigit (λ id. text_then (codes ".") (part_format (is_zero id))) c.args.bytes.now (omega (arith, c.good_front-good.ensures.count)))

pub returns-clause-exact : goal.returns-clause-exact
returns-clause-exact c =
    let zero = c.is_zero.ensures.same ∙ ap is_zero c.split_at.ensures.front in
    c.behind.ensures.same
    ∙ ap (behind 16) (c.dot_part_fault.ensures.exact ∙ (λ i. first_fault (text_then (codes ".") (part_format (zero i))) (c.split_at.ensures.back i)))
    ∙ sym (whole_field 16 HexDigit (λ id. text_then (codes ".") (part_format (is_zero id))) c.args.bytes.now (omega (arith, c.good_front-good.ensures.count)))
