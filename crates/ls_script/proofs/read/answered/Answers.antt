use Rattle.std.proofs.Common.{sym, inr}
use Rattle.ls_grammar.proofs.AnswerLemmas.{ok_answers, err_answers, is_small}
use Rattle.ls_script.specs.Grammar.{grammar}
use Rattle.ls_script.specs.LineWords.{words_of}
use Rattle.ls_script.proofs.ReadingLemmas.{ok_same, err_answer}
use Rattle.ls_script.proofs.ScriptGrammar.{lawful}
use Rattle.ls_script.proofs.read.answered.Goals as goal

pub fault-requires : goal.fault-requires
fault-requires c = is_small words_of grammar lawful c.args.text.now c.in-Err.refused c.in-Err.ensures.words

pub returns-in-Ok-clause-exact : goal.returns-in-Ok-clause-exact
returns-in-Ok-clause-exact c = ok_answers words_of grammar lawful c.args.text.now c.in-Ok.line c.in-Ok.ensures.words

pub returns-in-Ok-clause-same : goal.returns-in-Ok-clause-same
returns-in-Ok-clause-same c = inr (sym (ok_same c.args.text.now c.in-Ok.line c.in-Ok.ensures.ids c.in-Ok.ensures.words))

pub returns-in-Err-clause-exact : goal.returns-in-Err-clause-exact
returns-in-Err-clause-exact c =
    rw c.fault.ensures (err_answers words_of grammar lawful c.args.text.now c.in-Err.refused c.in-Err.ensures.words)

pub returns-in-Err-clause-same : goal.returns-in-Err-clause-same
returns-in-Err-clause-same c =
    err_answer c.args.text.now c.in-Err.refused c.fault.result c.fault.ensures c.in-Err.ensures.words
