-- The grammar of a script's lines.
use Rattle.std.specs.Prelude.{ℕ, List, [], ◌∷◌, map, codes}
use Rattle.ls_grammar.specs.Words.{Field, either, a_number, some_hex, a_credential, Row}
use Rattle.ls_script.specs.declared.verb.Verb.{Verb}
use Rattle.ls_script.specs.declared.verb.Verb.TheVariants as verbs

-- 16 digits
abbrev pub an_id : Field
an_id = some_hex 8 8

-- 2 to 128 digits, an even number
abbrev pub a_token : Field
a_token = some_hex 1 64

-- a verb, and what may stand behind it
abbrev pub row : List ℕ → List Field → Row
row verb fields = record { verb = verb; fields = fields }

-- what stands behind each verb
abbrev pub row_of : Verb → Row
row_of verbs.UserAdd = row (codes "user-add")
    (a_number ∷ either (codes "escrow") (codes "plain") ∷ [])
row_of verbs.UserDrop = row (codes "user-drop") (a_number ∷ [])
row_of verbs.Unlock = row (codes "unlock") (a_number ∷ a_credential ∷ [])
row_of verbs.Change = row (codes "change") (a_number ∷ a_credential ∷ a_credential ∷ [])
row_of verbs.Lock = row (codes "lock") (a_number ∷ [])
row_of verbs.Status = row (codes "status") (a_number ∷ [])
row_of verbs.Users = row (codes "users") []
row_of verbs.TokenAdd = row (codes "token-add") (a_number ∷ a_token ∷ [])
row_of verbs.TokenDrop = row (codes "token-drop") (a_number ∷ an_id ∷ [])
row_of verbs.TokenState = row (codes "token-state") (a_number ∷ an_id ∷ [])
row_of verbs.UnlockToken = row (codes "unlock-token") (a_number ∷ an_id ∷ a_token ∷ [])
row_of verbs.ChangeToken = row (codes "change-token")
    (a_number ∷ an_id ∷ a_token ∷ a_credential ∷ [])
row_of verbs.EscrowOff = row (codes "escrow-off") (a_number ∷ [])
row_of verbs.ResumePrepare = row (codes "resume-prepare") []
row_of verbs.ResumeArm = row (codes "resume-arm") []
row_of verbs.Resume = row (codes "resume") []
row_of verbs.AutoPin = row (codes "auto-pin")
    (a_number ∷ either (codes "on") (codes "off") ∷ [])
row_of verbs.PinLength = row (codes "pin-length") (a_number ∷ [])

-- all verbs
abbrev pub all_verbs : List Verb
all_verbs =
    verbs.UserAdd ∷ verbs.UserDrop ∷ verbs.Unlock ∷ verbs.Change ∷ verbs.Lock ∷ verbs.Status
    ∷ verbs.Users ∷ verbs.TokenAdd ∷ verbs.TokenDrop ∷ verbs.TokenState ∷ verbs.UnlockToken
    ∷ verbs.ChangeToken ∷ verbs.EscrowOff ∷ verbs.ResumePrepare ∷ verbs.ResumeArm
    ∷ verbs.Resume ∷ verbs.AutoPin ∷ verbs.PinLength ∷ []

-- the rows of all verbs
unfoldable pub grammar : List Row
grammar = map row_of all_verbs
