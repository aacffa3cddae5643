-- What reading the words behind a verb answers.
use Rattle.std.specs.Prelude.{Result, IfOk}
use Rattle.ls_grammar.specs.declared.rest.Rest.{Rest}
use Rattle.ls_grammar.specs.declared.fault.Refused.{Refused}
use Rattle.ls_grammar.specs.Reading.{read_words}
use Rattle.ls_grammar.specs.LineAnswers.{AgreesOnWords}
use Rattle.ls_script.specs.declared.verb.Verb.{Verb}
use Rattle.ls_script.specs.declared.script_line.ScriptLine.{ScriptLine}
use Rattle.ls_script.specs.Grammar.{row_of}
use Rattle.ls_script.specs.LineWords.{words_of, HasIds}

-- the result is what the verb's row gives on what is left, and its ids are of 64 bits
abbrev pub AgreesOnRow : Verb → Rest → Result ScriptLine Refused → Type 0
AgreesOnRow verb rest result =
    AgreesOnWords words_of (row_of verb).verb result
    (read_words (row_of verb).fields rest.at rest.text.now)
    × IfOk result HasIds
