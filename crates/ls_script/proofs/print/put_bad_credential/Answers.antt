use Rattle.std.proofs.Common.{arith}
use Rattle.ls_script.proofs.PutLemmas.{puts_then, puts_within}
use Rattle.ls_script.proofs.print.put_bad_credential.Goals as goal

pub returns : goal.returns
returns c = puts_within _ _ 25 _ _ (omega arith) (puts_then _ _ _ _ _ _ _ c.in_ok-put_word.ensures c.in_ok-put_word-2.ensures)
