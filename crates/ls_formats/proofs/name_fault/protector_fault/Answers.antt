use Rattle.std.proofs.Common.{ap, sym, ◌∙◌, codes, Some, arith}
use Rattle.std.proofs.lemmas.List.{take_rest}
use Rattle.ls_formats.specs.declared.field.Rule.TheVariants.{HexDigit}
use Rattle.ls_formats.specs.Rules.{behind}
use Rattle.ls_formats.specs.FileNames.{text_then, id_format}
use Rattle.ls_formats.proofs.FieldLemmas.{short_field, whole_field}
use Rattle.ls_formats.proofs.name_fault.protector_fault.Goals as goal

pub returns-then-good-lt8 : goal.returns-then-good-lt8
returns-then-good-lt8 c = record {
  exact = ap Some c.good_front-good.ensures.count
      ∙ sym (short_field 8 HexDigit (λ user. text_then (codes ".") id_format) c.args.bytes.now (omega (arith, c.good_front-good.ensures.count)));
}

pub returns : goal.returns
returns c =
    let rest = rw take_rest at c.dot_id_fault.ensures.exact in
    record {
      exact = c.behind.ensures.same ∙ ap (behind 8) rest
          ∙ sym (whole_field 8 HexDigit (λ user. text_then (codes ".") id_format) c.args.bytes.now (omega (arith, c.good_front-good.ensures.count)));
    }
