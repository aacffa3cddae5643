-- What reading a line answers, for any grammar and any type of lines.
use Rattle.std.specs.Prelude.{◌≡◌, ℕ, ◌+◌, List, [], ◌∷◌, Result, Ok, Err, Option, Some, None}
use Rattle.ls_credential.specs.declared.fault.CredentialFault.{CredentialFault}
use Rattle.ls_credential.specs.Rules.{fault_of}
use Rattle.ls_grammar.specs.Words.{Word, fixed, number, hex, credential, Line, line_text, Row, IsLine}
use Rattle.ls_grammar.specs.Reads.{Reads}
use Rattle.ls_grammar.specs.declared.fault.Refused.{Refused}
use Rattle.ls_grammar.specs.declared.fault.Refused.TheVariants as refused
use Rattle.ls_grammar.specs.declared.fault.LineFault.{LineFault}
use Rattle.ls_grammar.specs.declared.fault.LineFault.TheVariants as fault

-- the one fault, or else the other
abbrev pub or_else : Option CredentialFault → Option CredentialFault → Option CredentialFault
or_else None after = after
or_else (Some f) after = Some f

-- the fault of the leftmost bad credential
abbrev pub first_fault : List Word → Option CredentialFault
first_fault [] = None
first_fault (fixed text ∷ words) = first_fault words
first_fault (number n ∷ words) = first_fault words
first_fault (hex bytes ∷ words) = first_fault words
first_fault (credential kind text ∷ words) = or_else (fault_of kind text) (first_fault words)

-- What reading a text answers, exactly. Ok: the line that it is the text of, as its words show it,
-- whose credentials keep their rules. Syntax: no line has this text, and the column is one more
-- than how far it goes along with any. BadCredential: it is the text of a line with a bad
-- credential, and this is the fault of the leftmost. Memory: only where Ok could have come.
abbrev pub ReadsLine : {L : Type 0} → List Row → (L → Line) → List ℕ → Result L LineFault → Type 0
ReadsLine rows words_of text (Ok l) =
    Reads (IsLine rows) line_text text (Ok (words_of l)) × (first_fault (words_of l).words ≡ None)
ReadsLine rows words_of text (Err (fault.Syntax column)) =
    (n : ℕ) × (column ≡ n + 1) × Reads (IsLine rows) line_text text (Err n)
ReadsLine rows words_of text (Err (fault.BadCredential f)) =
    (l : Line) × Reads (IsLine rows) line_text text (Ok l) × (first_fault l.words ≡ Some f)
ReadsLine rows words_of text (Err fault.Memory) =
    (l : Line) × Reads (IsLine rows) line_text text (Ok l) × (first_fault l.words ≡ None)

-- a reader of the words behind a verb returns what reading by the fields gives
abbrev pub AgreesOnWords : {L : Type 0}
    → (L → Line) → List ℕ → Result L Refused → Result (List Word) ℕ → Type 0
AgreesOnWords words_of verb (Ok l) read =
    (read ≡ Ok (words_of l).words) × ((words_of l).verb ≡ verb)
    × (first_fault (words_of l).words ≡ None)
AgreesOnWords words_of verb (Err (refused.Mismatch mismatch)) read = read ≡ Err mismatch.at
AgreesOnWords words_of verb (Err (refused.BadCredential f)) read =
    (words : List Word) × (read ≡ Ok words) × (first_fault words ≡ Some f)
AgreesOnWords words_of verb (Err refused.Memory) read =
    (words : List Word) × (read ≡ Ok words) × (first_fault words ≡ None)

-- a reader of a line returns what reading by the grammar gives
abbrev pub AgreesOnLine : {L : Type 0} → (L → Line) → Result L Refused → Result Line ℕ → Type 0
AgreesOnLine words_of (Ok l) read =
    (read ≡ Ok (words_of l)) × (first_fault (words_of l).words ≡ None)
AgreesOnLine words_of (Err (refused.Mismatch mismatch)) read = read ≡ Err mismatch.at
AgreesOnLine words_of (Err (refused.BadCredential f)) read =
    (l : Line) × (read ≡ Ok l) × (first_fault l.words ≡ Some f)
AgreesOnLine words_of (Err refused.Memory) read =
    (l : Line) × (read ≡ Ok l) × (first_fault l.words ≡ None)
