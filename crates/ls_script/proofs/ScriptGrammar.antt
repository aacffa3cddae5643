-- The grammar of a script is lawful.
use Rattle.std.proofs.Common.{◌≡◌, true, refl}
use Rattle.ls_grammar.proofs.GrammarTest.{grammar_test}
use Rattle.ls_script.specs.Grammar.{grammar}

pub lawful : grammar_test grammar ≡ true
unfolding grammar
lawful = refl
