-- The line that a text is read as, or why it is none.
use Rattle.std.specs.Prelude.{ℕ, ◌+◌, Bool, List, [], ◌∷◌, codes, find, Option, Some, None, option_and_then, Result, Ok, Err}
use Rattle.std.specs.Int.{w64, from_be_bytes}
use Rattle.std.specs.Str.{bytes_eq}
use Rattle.ls_credential.specs.Rules.{KindAndText}
use Rattle.ls_credential.specs.declared.fault.CredentialFault.{CredentialFault}
use Rattle.ls_grammar.specs.Words.{Word, fixed, number, hex, credential, Line}
use Rattle.ls_grammar.specs.Reading.{read_line}
use Rattle.ls_grammar.specs.LineAnswers.{first_fault}
use Rattle.ls_grammar.specs.declared.fault.LineFault.{LineFault}
use Rattle.ls_grammar.specs.declared.fault.LineFault.TheVariants as fault
use Rattle.ls_script.specs.Grammar.{grammar, row_of, all_verbs}
use Rattle.ls_script.specs.declared.verb.Verb.{Verb}
use Rattle.ls_script.specs.declared.verb.Verb.TheVariants as verbs
use Rattle.ls_script.specs.declared.script_line.ScriptLine.{ScriptLine}
use Rattle.ls_script.specs.declared.script_line.ScriptLine.TheVariants as lines

-- ---- what words say, by their shape; None for words of another shape

-- no words
abbrev pub alone : ScriptLine → List Word → Option ScriptLine
alone line [] = Some line
alone line _ = None

-- a user
abbrev pub with_user : (ℕ → ScriptLine) → List Word → Option ScriptLine
with_user line (number user ∷ []) = Some (line user)
with_user line _ = None

-- a user and a choice of two words, of which the first is `chosen`
abbrev pub with_choice : List ℕ → (ℕ → Bool → ScriptLine) → List Word → Option ScriptLine
with_choice chosen line (number user ∷ fixed word ∷ []) = Some (line user (bytes_eq word chosen))
with_choice chosen line _ = None

-- a user and a credential
abbrev pub with_credential : (ℕ → KindAndText → ScriptLine) → List Word → Option ScriptLine
with_credential line (number user ∷ credential kind text ∷ []) =
    Some (line user (record { kind = kind; text = text }))
with_credential line _ = None

-- a user and two credentials
abbrev pub with_credentials : (ℕ → KindAndText → KindAndText → ScriptLine)
    → List Word → Option ScriptLine
with_credentials line (number user ∷ credential kind text ∷ credential kind' text' ∷ []) =
    Some (line user (record { kind = kind; text = text }) (record { kind = kind'; text = text' }))
with_credentials line _ = None

-- a user and a token
abbrev pub with_token : (ℕ → List ℕ → ScriptLine) → List Word → Option ScriptLine
with_token line (number user ∷ hex token ∷ []) = Some (line user token)
with_token line _ = None

-- a user and an id
abbrev pub with_id : (ℕ → ℕ → ScriptLine) → List Word → Option ScriptLine
with_id line (number user ∷ hex id ∷ []) = Some (line user (from_be_bytes w64 id))
with_id line _ = None

-- a user, an id and a token
abbrev pub with_id_and_token : (ℕ → ℕ → List ℕ → ScriptLine) → List Word → Option ScriptLine
with_id_and_token line (number user ∷ hex id ∷ hex token ∷ []) =
    Some (line user (from_be_bytes w64 id) token)
with_id_and_token line _ = None

-- a user, an id, a token and a credential
abbrev pub with_all : (ℕ → ℕ → List ℕ → KindAndText → ScriptLine) → List Word → Option ScriptLine
with_all line (number user ∷ hex id ∷ hex token ∷ credential kind text ∷ []) =
    Some (line user (from_be_bytes w64 id) token (record { kind = kind; text = text }))
with_all line _ = None

-- ---- a line by its words

-- what the words behind a verb say
abbrev pub line_with : Verb → List Word → Option ScriptLine
line_with verbs.UserAdd words = with_choice (codes "escrow") lines.UserAdd words
line_with verbs.UserDrop words = with_user lines.UserDrop words
line_with verbs.Unlock words = with_credential lines.Unlock words
line_with verbs.Change words = with_credentials lines.Change words
line_with verbs.Lock words = with_user lines.Lock words
line_with verbs.Status words = with_user lines.Status words
line_with verbs.Users words = alone lines.Users words
line_with verbs.TokenAdd words = with_token lines.TokenAdd words
line_with verbs.TokenDrop words = with_id lines.TokenDrop words
line_with verbs.TokenState words = with_id lines.TokenState words
line_with verbs.UnlockToken words = with_id_and_token lines.UnlockToken words
line_with verbs.ChangeToken words = with_all lines.ChangeToken words
line_with verbs.EscrowOff words = with_user lines.EscrowOff words
line_with verbs.ResumePrepare words = alone lines.ResumePrepare words
line_with verbs.ResumeArm words = alone lines.ResumeArm words
line_with verbs.Resume words = alone lines.Resume words
line_with verbs.AutoPin words = with_choice (codes "on") lines.AutoPin words
line_with verbs.PinLength words = with_user lines.PinLength words

-- the verb that a word is
abbrev pub find_verb : List ℕ → Option Verb
find_verb word = find (λ verb. bytes_eq word (row_of verb).verb) all_verbs

-- the line that has these words
abbrev pub line_of : Line → Option ScriptLine
line_of l = option_and_then (λ verb. line_with verb l.words) (find_verb l.verb)

-- ---- the reading of a text

-- a line, unless one of its credentials is bad; a line of the grammar always is a line of a script
abbrev pub judged : Option CredentialFault → Option ScriptLine → Result ScriptLine LineFault
judged (Some f) line = Err (fault.BadCredential f)
judged None (Some line) = Ok line
judged None None = Err (fault.Syntax 1)

-- what the words of a text are read as; the column counts from 1
abbrev pub read_as : Result Line ℕ → Result ScriptLine LineFault
read_as (Ok l) = judged (first_fault l.words) (line_of l)
read_as (Err n) = Err (fault.Syntax (n + 1))

-- the line that a text is read as, or why it is none
unfoldable pub reading_of : List ℕ → Result ScriptLine LineFault
reading_of text = read_as (read_line grammar text)
