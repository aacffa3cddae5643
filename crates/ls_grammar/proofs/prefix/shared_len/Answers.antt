use Rattle.std.proofs.Common.{drop, length-drop, arith}
use Rattle.ls_grammar.proofs.SharedLemmas.{shared-le}
use Rattle.ls_grammar.proofs.prefix.shared_len.Goals as goal

pub returns-else-n-b-clause-value : goal.returns-else-n-b-clause-value
returns-else-n-b-clause-value c =
    let n = c.loop-n.n in
    let b = c.args.b.now in
    omega (arith, shared-le (drop n c.args.a.now) (drop n b), length-drop n b)
