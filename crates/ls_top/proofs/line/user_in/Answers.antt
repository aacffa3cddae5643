use Rattle.std.specs.Prelude.{Some, codes}
use Rattle.std.proofs.lemmas.Bool.Decides.{Decides-eqb}
use Rattle.std.proofs.lemmas.Slice.Eq.{strip_prefix_is, strip_suffix_is}
use Rattle.ls_top.proofs.LineLemmas.{line_read}
use Rattle.ls_top.proofs.line.user_in.Goals as goal

pub returns-clause-read : goal.returns-clause-read
returns-clause-read c =
    line_read c.args.line.now c.in_ok-strip_prefix.field-0.now c.in_ok-operand.operand.now c.number.result
    (strip_prefix_is Decides-eqb c.args.line.now (codes "user-add ") (Some c.in_ok-strip_prefix.field-0) c.in_ok-strip_prefix.ensures.cases)
    (strip_suffix_is Decides-eqb c.in_ok-strip_prefix.field-0.now (codes " plain") (Some c.in_ok-operand.operand) c.in_ok-operand.ensures.cases)
    c.number.ensures.spelled
