-- The words of a line that was read.
use Rattle.std.specs.Prelude.{ℕ, ◌<◌, ◌^◌, List, [], ◌∷◌, codes, if◌then◌else◌, ⊤}
use Rattle.std.specs.Int.{w64, to_be_bytes}
use Rattle.ls_grammar.specs.Words.{Word, fixed, number, hex, credential, Line}
use Rattle.ls_credential.specs.Rules.{KindAndText}
use Rattle.ls_script.specs.declared.script_line.ScriptLine.{ScriptLine}
use Rattle.ls_script.specs.declared.script_line.ScriptLine.TheVariants as lines

-- a verb and the words behind it
abbrev pub verb_and : List ℕ → List Word → Line
verb_and verb words = record { verb = verb; words = words }

-- an id as a word: eight bytes in hex
abbrev pub id_word : ℕ → Word
id_word id = hex (to_be_bytes w64 id)

-- a credential as a word
abbrev pub credential_word : KindAndText → Word
credential_word c = credential c.kind c.text

-- the words of a line
abbrev pub words_of : ScriptLine → Line
words_of (lines.UserAdd user escrow) = verb_and (codes "user-add")
    (number user ∷ fixed (if escrow then codes "escrow" else codes "plain") ∷ [])
words_of (lines.UserDrop user) = verb_and (codes "user-drop") (number user ∷ [])
words_of (lines.Unlock user c) = verb_and (codes "unlock")
    (number user ∷ credential_word c ∷ [])
words_of (lines.Change user old new) = verb_and (codes "change")
    (number user ∷ credential_word old ∷ credential_word new ∷ [])
words_of (lines.Lock user) = verb_and (codes "lock") (number user ∷ [])
words_of (lines.Status user) = verb_and (codes "status") (number user ∷ [])
words_of lines.Users = verb_and (codes "users") []
words_of (lines.TokenAdd user token) = verb_and (codes "token-add")
    (number user ∷ hex token ∷ [])
words_of (lines.TokenDrop user id) = verb_and (codes "token-drop")
    (number user ∷ id_word id ∷ [])
words_of (lines.TokenState user id) = verb_and (codes "token-state")
    (number user ∷ id_word id ∷ [])
words_of (lines.UnlockToken user id token) = verb_and (codes "unlock-token")
    (number user ∷ id_word id ∷ hex token ∷ [])
words_of (lines.ChangeToken user id token new) = verb_and (codes "change-token")
    (number user ∷ id_word id ∷ hex token ∷ credential_word new ∷ [])
words_of (lines.EscrowOff user) = verb_and (codes "escrow-off") (number user ∷ [])
words_of lines.ResumePrepare = verb_and (codes "resume-prepare") []
words_of lines.ResumeArm = verb_and (codes "resume-arm") []
words_of lines.Resume = verb_and (codes "resume") []
words_of (lines.AutoPin user on) = verb_and (codes "auto-pin")
    (number user ∷ fixed (if on then codes "on" else codes "off") ∷ [])
words_of (lines.PinLength user) = verb_and (codes "pin-length") (number user ∷ [])

-- the ids of a line are numbers of 64 bits, as those of a program are
abbrev pub HasIds : ScriptLine → Type 0
HasIds (lines.TokenDrop user id) = id < 2 ^ 64
HasIds (lines.TokenState user id) = id < 2 ^ 64
HasIds (lines.UnlockToken user id token) = id < 2 ^ 64
HasIds (lines.ChangeToken user id token new) = id < 2 ^ 64
HasIds _ = ⊤
