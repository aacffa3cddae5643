use Rattle.ls_grammar.specs.Words.{line_text, IsLine}
use Rattle.ls_grammar.proofs.LongestPrefixLemmas.{longest_from_furthest}
use Rattle.ls_grammar.proofs.laws.furthest_is_longest.Goals as goal

pub returns : goal.returns
returns c = λ rows text n h. longest_from_furthest (IsLine rows) line_text text n h
