use Rattle.ls_top.proofs.NumberLemmas.{bad_front, parsed_spelled, parsed_only, is_text}
use Rattle.ls_top.proofs.number.number.Goals as goal

pub returns-then-has_sign_or_zero-clause-only : goal.returns-then-has_sign_or_zero-clause-only
returns-then-has_sign_or_zero-clause-only c = λ n small is.
    absurd (bad_front n c.args.text.now small is (c.has_sign_or_zero.ensures.yes c.if-has_sign_or_zero.true))

pub returns-in-Ok-clause-spelled : goal.returns-in-Ok-clause-spelled
returns-in-Ok-clause-spelled c =
    parsed_spelled c.args.text.now c.in-Ok.text.now c.parse.result c.ok.result c.ok.ensures.value c.in-Ok.ensures.cases.0
    (c.has_sign_or_zero.ensures.no c.if-has_sign_or_zero.false) c.parse.ensures.value.0

pub returns-in-Ok-clause-only : goal.returns-in-Ok-clause-only
returns-in-Ok-clause-only c = λ n small is.
    parsed_only n c.args.text.now c.in-Ok.text.now c.parse.result c.ok.result small is c.ok.ensures.value c.in-Ok.ensures.cases.0 c.parse.ensures.value.0

pub returns-in-Err-clause-only : goal.returns-in-Err-clause-only
returns-in-Err-clause-only c = λ n small is. absurd (c.in-Err.ensures.cases.0 (is_text n c.args.text.now small is))
