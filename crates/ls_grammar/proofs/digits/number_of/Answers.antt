use Rattle.ls_grammar.proofs.HexTextLemmas.{number_of_digits, sized_digits}
use Rattle.ls_grammar.proofs.digits.number_of.Goals as goal

pub returns : goal.returns
returns c =
    let digits = c.args.digits in
    let sized = sized_digits digits.text.now c.requires digits.hex digits.even in
    let value = rw sized at c.decode_to_slice.ensures.value in
    number_of_digits digits.text.now c.decode_to_slice.new.out c.from_be_bytes.result c.requires digits.hex digits.even value.1 c.from_be_bytes.ensures
