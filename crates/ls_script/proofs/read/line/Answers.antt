use Rattle.ls_grammar.proofs.AnswerLemmas.{again}
use Rattle.ls_script.specs.Grammar.{grammar}
use Rattle.ls_script.specs.LineWords.{words_of}
use Rattle.ls_script.proofs.read.line.Goals as goal

pub returns-clause-again : goal.returns-clause-again
returns-clause-again c = again words_of grammar c.args.text.now c.answered.result c.answered.ensures.exact
