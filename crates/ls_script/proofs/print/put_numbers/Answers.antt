use Rattle.ls_grammar.specs.Words.{number}
use Rattle.ls_script.proofs.PutLemmas.{words_more}
use Rattle.ls_script.proofs.print.put_numbers.Goals as goal

pub loop-n-preserved : goal.loop-n-preserved
loop-n-preserved c =
    words_more number 11 c.args.numbers.now c.loop-n.n-index 0 _ _ _ c.loop-n-test.true c.loop-n.invariant c.in_ok-put_small.ensures
