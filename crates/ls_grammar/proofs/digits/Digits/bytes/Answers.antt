use Rattle.ls_grammar.proofs.HexTextLemmas.{decode_digits}
use Rattle.ls_grammar.proofs.digits.Digits.bytes.Goals as goal

pub returns-in-Ok : goal.returns-in-Ok
returns-in-Ok c =
    let digits = (decode_digits c.args.self.text.now c.args.self.hex c.args.self.even).0 in
    let found = c.in-Ok.ensures.ok in
    cc (digits, found)
